-- What is kept of a course goes on.
use Rattle.std.proofs.Common.{◌≡◌, ℕ, suc, ◌+◌, ◌-◌, ◌*◌, ◌/◌, ◌%◌, ◌<◌, ◌≤◌, Bool, true, false, Option, Some, None, List, [], ◌∷◌, ◌++◌, sym, ap, ◌∙◌, subst, arith, refl}
use Rattle.std.specs.Prelude.{if◌then◌else◌, max}
use Rattle.std.proofs.lemmas.Nat.{div_below}
use Rattle.std.proofs.lemmas.List.{append-nil}
use Rattle.pdh_spans.specs.Times.{Span, begun_after, time_up_to}
use Rattle.pdh_timeline.specs.declared.state.State.TheVariants.{Out, Ais, Alarm}
use Rattle.pdh_timeline.specs.Marks.{Mark, turns_of}
use Rattle.pdh_track.specs.Standing.{rate_of, second_of}
use Rattle.pdh_cells.specs.declared.cell.Code.{Code}
use Rattle.pdh_cells.specs.declared.cells.Cells.{Cells}
use Rattle.pdh_cells.specs.Lanes.{Lanes}
use Rattle.pdh_cells.specs.Standing.{StandsFor as CellsStandFor}
use Rattle.pdh_cells.proofs.Keeping.{raised}
use Rattle.pdh_placed.specs.declared.placed.Placed.{Placed}
use Rattle.pdh_health.specs.declared.sign.Sign.{Sign}
use Rattle.pdh_health.specs.declared.course.Course.{Course}
use Rattle.pdh_health.specs.Marking.{sign_of, is_last, marks_by, marks_with, code_by, codes_with}
use Rattle.pdh_health.specs.Courses.{begun_or, lanes_so_far, lanes_of, with_open, StandsFor, GoesOn}
use Rattle.pdh_health.proofs.Lying.{lie_later}

-- ---- the second that runs

div_mono : (a b k : ℕ) → 0 < k → a ≤ b → a / k ≤ b / k
div_mono a b k some le =
    let more : suc (b / k) * k ≡ b / k * k + k = omega arith in
    let whole : b / k * k + b % k ≡ b = omega arith in
    let part : b % k < k = omega (arith, some) in
    let below : a / k < suc (b / k) = div_below a k (suc (b / k)) some (omega (arith, more, whole, part, le)) in
    omega (arith, below)

-- it isn't behind a place
pub not_behind : (course : Course) (rate block : ℕ) (marks : List Mark) (codes : List Code) (before place : ℕ) → StandsFor course rate block marks codes before → before ≤ place
    → second_of course.track ≤ place / rate_of course.track
not_behind course rate block marks codes before place stands le = subst (λ r. second_of course.track ≤ place / r) (sym stands.rate_is) (stands.reached place le)

-- and not behind a later one
pub reaches : (second old_rate rate place : ℕ) → 0 < old_rate → second ≡ place / old_rate → old_rate ≡ rate → (later : ℕ) → place ≤ later → second ≤ later / rate
reaches second old_rate rate place some is same later le =
    let most : place / old_rate ≤ later / old_rate = div_mono place later old_rate some le in
    subst (λ r. second ≤ later / r) same (omega (arith, is, most))

-- ---- no mark more

pub goes_nowhere : (course : Course) (place : ℕ) → GoesOn course place (λ marks. marks) (λ codes. codes) course
goes_nowhere course place = λ rate block marks codes before stands le few. record {
  track_stands = stands.track_stands;
  rate_is = stands.rate_is;
  block_is = stands.block_is;
  reached = λ later behind. stands.reached later (omega (arith, le, behind));
  cells_stand = raised _ _ (before + 1) (place + 1) (omega (arith, le)) stands.cells_stand;
  near_are = stands.near_are;
  far_are = stands.far_are;
  times_lie = λ state. lie_later before place (turns_of state marks) le (stands.times_lie state);
}

-- ---- for the same marks, and the same that cells show

pub same_marks : (course : Course) (rate block : ℕ) (marks more : List Mark) (codes : List Code) (place : ℕ) → marks ≡ more → StandsFor course rate block marks codes place → StandsFor course rate block more codes place
same_marks course rate block marks more codes place same stands = subst (λ (l : List Mark). StandsFor course rate block l codes place) same stands

pub same_lanes : (cells : Cells) (lanes more : Lanes) (end : ℕ) → lanes ≡ more → CellsStandFor cells lanes end → CellsStandFor cells more end
same_lanes cells lanes more end same stands = subst (λ (l : Lanes). CellsStandFor cells l end) same stands

-- ---- by an event

pub with_marks : (old new : Course) (place : ℕ) (more other : List Mark → List Mark) (codes : List Code → List Code) → ((marks : List Mark) → other marks ≡ more marks) → GoesOn old place other codes new → GoesOn old place more codes new
with_marks old new place more other more_codes same goes = λ rate block marks codes before stands le few.
    subst (λ l. StandsFor new rate block l (more_codes codes) place) (same marks) (goes rate block marks codes before stands le few)

pub with_codes : (old new : Course) (place : ℕ) (marks : List Mark → List Mark) (more other : List Code → List Code) → ((codes : List Code) → other codes ≡ more codes) → GoesOn old place marks other new → GoesOn old place marks more new
with_codes old new place more_marks more other same goes = λ rate block marks codes before stands le few.
    subst (λ l. StandsFor new rate block (more_marks marks) l place) (same codes) (goes rate block marks codes before stands le few)

-- an event of this sign
pub noted : (old new : Course) (placed : Placed) (sign : Sign) → sign_of placed ≡ sign → GoesOn old placed.place (λ marks. marks ++ marks_by marks sign placed.place) (λ codes. codes ++ code_by sign placed) new
    → GoesOn old placed.place (λ marks. marks_with marks placed) (λ codes. codes_with codes placed) new
noted old new placed sign is goes =
    subst (λ s. GoesOn old placed.place (λ marks. marks ++ marks_by marks s placed.place) (λ codes. codes ++ code_by s placed) new) (sym is) goes

-- one that brings no code
pub noted_mark : (old new : Course) (placed : Placed) (sign : Sign) → sign_of placed ≡ sign → code_by sign placed ≡ [] → GoesOn old placed.place (λ marks. marks ++ marks_by marks sign placed.place) (λ codes. codes) new
    → GoesOn old placed.place (λ marks. marks_with marks placed) (λ codes. codes_with codes placed) new
noted_mark old new placed sign is none goes =
    noted old new placed sign is (with_codes old new placed.place (λ marks. marks ++ marks_by marks sign placed.place) (λ codes. codes ++ code_by sign placed) (λ codes. codes) (λ codes. sym (ap (λ (l : List Code). codes ++ l) none ∙ append-nil codes)) goes)

-- ---- errors at one place

pub is_old : (last : Option ℕ) (mark : Mark) (place : ℕ) (marks : List Mark) → is_last last place ≡ true → marks ≡ marks ++ (if is_last last place then [] else mark ∷ [])
is_old last mark place marks own = sym (ap (λ (b : Bool). marks ++ (if b then [] else mark ∷ [])) own ∙ append-nil marks)

pub is_new : (last : Option ℕ) (mark : Mark) (place : ℕ) (marks : List Mark) → is_last last place ≡ false → marks ++ mark ∷ [] ≡ marks ++ (if is_last last place then [] else mark ∷ [])
is_new last mark place marks other = sym (ap (λ (b : Bool). marks ++ (if b then [] else mark ∷ [])) other)

-- ---- the times that go on

-- a state that stands began before
pub begun_before : (begun : Option ℕ) (place now : ℕ) → place < now → begun_or place begun ≤ place → begun_or 0 begun < now
begun_before None place now less is = omega (arith, less)
begun_before (Some from) place now less is = omega (arith, less, is)

pub open_lies : (from to now : ℕ) → from < now → to ≤ now → max from (to - 1) < now
open_lies from to now before within = omega (arith, before, within)

with_out : (begun : Option ℕ) (bits : ℕ) (lanes : Lanes) → with_open Out begun bits lanes ≡ record lanes { out = lanes.out ++ time_up_to begun bits }
with_out None bits lanes = ap (λ (l : List Span). record lanes { out = l }) (sym (append-nil lanes.out))
with_out (Some from) bits lanes = refl

with_ais : (begun : Option ℕ) (bits : ℕ) (lanes : Lanes) → with_open Ais begun bits lanes ≡ record lanes { ais = lanes.ais ++ time_up_to begun bits }
with_ais None bits lanes = ap (λ (l : List Span). record lanes { ais = l }) (sym (append-nil lanes.ais))
with_ais (Some from) bits lanes = refl

with_alarm : (begun : Option ℕ) (bits : ℕ) (lanes : Lanes) → with_open Alarm begun bits lanes ≡ record lanes { alarm = lanes.alarm ++ time_up_to begun bits }
with_alarm None bits lanes = ap (λ (l : List Span). record lanes { alarm = l }) (sym (append-nil lanes.alarm))
with_alarm (Some from) bits lanes = refl

pub all_open : (bits : ℕ) (marks : List Mark) (codes : List Code)
    → with_open Alarm (begun_after (turns_of Alarm marks)) bits (with_open Ais (begun_after (turns_of Ais marks)) bits (with_open Out (begun_after (turns_of Out marks)) bits (lanes_so_far marks codes)))
    ≡ lanes_of bits marks codes
all_open bits marks codes =
    ap (λ (l : Lanes). with_open Alarm (begun_after (turns_of Alarm marks)) bits (with_open Ais (begun_after (turns_of Ais marks)) bits l)) (with_out (begun_after (turns_of Out marks)) bits (lanes_so_far marks codes))
    ∙ ap (with_open Alarm (begun_after (turns_of Alarm marks)) bits) (with_ais (begun_after (turns_of Ais marks)) bits _)
    ∙ with_alarm (begun_after (turns_of Alarm marks)) bits _
