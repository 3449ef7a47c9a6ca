-- How the verdicts on a line's superframes grow, and what each bit shows by that.
use Rattle.std.proofs.Common.{◌≡◌, inl, inr, ℕ, suc, ◌+◌, ◌<◌, ◌≤◌, Bool, true, false, not, ◌==◌, cond, List, [], ◌∷◌, ◌++◌, length, map, take, drop, refl, sym, ap, ◌∙◌, subst, arith, append_assoc}
use Rattle.std.specs.Prelude.{Option, None, Some, is_some, if◌then◌else◌}
use Rattle.std.specs.List.{slice_index_or}
use Rattle.std.proofs.lemmas.List.{append-nil, map-append, take_more}
use Rattle.std.proofs.lemmas.Grind.{flat_map-append}
use Rattle.std.proofs.lemmas.Bool.{cases_Bool, eqb-true, eq-eqb, ne_eqb}
use Rattle.std.proofs.Math.Seq.{drop-append_seam}
use Rattle.pdh_shape.specs.declared.role.Role.{Role}
use Rattle.pdh_shape.specs.Frame.{FrameShape}
use Rattle.pdh_watch.specs.declared.kind.Kind.{Kind}
use Rattle.pdh_watch.specs.declared.kind.TheConstants.Kind.{ALIGNED, LOST, CRC}
use Rattle.pdh_line.specs.Paths.{top}
use Rattle.pdh_line.specs.Tracking.{Piece, track}
use Rattle.pdh_line.specs.Tracking.Piece.{Gap, Delivered}
use Rattle.pdh_align.specs.declared.step.Step.{Step}
use Rattle.pdh_align.specs.declared.step.Step.TheVariants.{Nothing, Rejected, Aligned, Frame, Lost}
use Rattle.pdh_align.specs.Aligning.{Grows}
use Rattle.pdh_events.specs.Telling.{next_bit, event_of, tell, changed, ais_kinds}
use Rattle.pdh_events.specs.Duties.{last_frame}
use Rattle.pdh_events.specs.Acts.{alignment_kinds}
use Rattle.pdh_events.specs.laws.KeepingLaws.{last_gap, last_more}
use Rattle.pdh_events.specs.laws.QuietLaws.{IsQuiet, IsCalm}
use Rattle.pdh_ds1.specs.declared.plan.SuperframePlan.{SuperframePlan}
use Rattle.pdh_ds1.specs.Superframe.{in_superframe, IsSuperframePlan}
use Rattle.pdh_ds1.specs.Packing.{word_of}
use Rattle.pdh_ds1.specs.Receiving.{carried_word, judgement, judgements, last_word}
use Rattle.pdh_ds1.proofs.MachineLaws.{judgements-append, last_word-append, judged-is}
use Rattle.pdh_ds1_events.specs.Events.{verdicts, crc_kinds, superframe_events}
use Rattle.pdh_ds1_events.specs.Checking.{checked, word_behind_all, step_kinds, word_after}

-- ---- verdicts on pieces

pub checked-append : (plan : SuperframePlan) (word : Option ℕ) (xs ys : List Piece) → checked plan word (xs ++ ys) ≡ checked plan word xs ++ checked plan (word_behind_all plan word xs) ys
checked-append plan word xs ys = go (plan.frames == 24)
  where
    go : (b : Bool) → cond b (judgements 24 word (xs ++ ys)) [] ≡ cond b (judgements 24 word xs) [] ++ cond b (judgements 24 (cond b (last_word 24 word xs) word) ys) []
    go true = judgements-append 24 word xs ys
    go false = refl

pub word-append : (plan : SuperframePlan) (word : Option ℕ) (xs ys : List Piece) → word_behind_all plan word (xs ++ ys) ≡ word_behind_all plan (word_behind_all plan word xs) ys
word-append plan word xs ys = go (plan.frames == 24)
  where
    go : (b : Bool) → cond b (last_word 24 word (xs ++ ys)) word ≡ cond b (last_word 24 (cond b (last_word 24 word xs) word) ys) (cond b (last_word 24 word xs) word)
    go true = last_word-append 24 word xs ys
    go false = refl

pub checked_none : (plan : SuperframePlan) (word : Option ℕ) → checked plan word [] ≡ []
checked_none plan word = go (plan.frames == 24)
  where
    go : (b : Bool) → cond b (judgements 24 word []) [] ≡ []
    go true = refl
    go false = refl

pub word_none : (plan : SuperframePlan) (word : Option ℕ) → word_behind_all plan word [] ≡ word
word_none plan word = go (plan.frames == 24)
  where
    go : (b : Bool) → cond b (last_word 24 word []) word ≡ word
    go true = refl
    go false = refl

-- a gap has no verdict
checked_gap : (plan : SuperframePlan) (word : Option ℕ) (n : ℕ) → checked plan word (Gap n ∷ []) ≡ []
checked_gap plan word n = go (plan.frames == 24)
  where
    go : (b : Bool) → cond b (judgements 24 word (Gap n ∷ [])) [] ≡ []
    go true = refl
    go false = refl

pub checked_behind_gap : (plan : SuperframePlan) (others : List Piece) (n : ℕ) → checked plan None (others ++ Gap n ∷ []) ≡ checked plan None others
checked_behind_gap plan others n =
    checked-append plan None others (Gap n ∷ []) ∙ ap (λ (x : List Bool). checked plan None others ++ x) (checked_gap plan (word_behind_all plan None others) n)
    ∙ append-nil (checked plan None others)

-- no word stands behind it
pub word_behind_gap : (plan : SuperframePlan) (others : List Piece) (n : ℕ) → word_behind_all plan None (others ++ Gap n ∷ []) ≡ None
word_behind_gap plan others n = word-append plan None others (Gap n ∷ []) ∙ go (plan.frames == 24)
  where
    go : (b : Bool) → cond b (last_word 24 (cond b (last_word 24 None others) None) (Gap n ∷ [])) (cond b (last_word 24 None others) None) ≡ None
    go true = refl
    go false = refl

-- what a superframe shows that carries the word before it, or another
pub shows_nothing : (superframe : List Bool) (carried word : ℕ) → carried ≡ carried_word superframe → carried ≡ word → crc_kinds (judgement (Delivered superframe) (Some word)) ≡ []
shows_nothing superframe carried word is same = ap (λ b. crc_kinds (not b ∷ [])) (eq-eqb (carried_word superframe) word (sym is ∙ same))

pub shows_error : (superframe : List Bool) (carried word : ℕ) → carried ≡ carried_word superframe → (carried ≡ word → ⊥) → crc_kinds (judgement (Delivered superframe) (Some word)) ≡ CRC ∷ []
shows_error superframe carried word is other = ap (λ b. crc_kinds (not b ∷ [])) (ne_eqb (carried_word superframe) word (λ e. other (is ∙ e)))

-- a superframe of the extended form, and of the other
pub checked_one : (plan : SuperframePlan) (word : Option ℕ) (superframe : List Bool) → plan.frames ≡ 24 → checked plan word (Delivered superframe ∷ []) ≡ judgement (Delivered superframe) word
checked_one plan word superframe extended = rw (eq-eqb plan.frames 24 extended) (append-nil (judgement (Delivered superframe) word))

pub word_of_one : (plan : SuperframePlan) (word : Option ℕ) (superframe : List Bool) → plan.frames ≡ 24 → word_behind_all plan word (Delivered superframe ∷ []) ≡ Some (word_of 24 superframe)
word_of_one plan word superframe extended = rw (eq-eqb plan.frames 24 extended) refl

pub checked_other : (plan : SuperframePlan) (word : Option ℕ) (pieces : List Piece) → (plan.frames ≡ 24 → ⊥) → checked plan word pieces ≡ []
checked_other plan word pieces other = rw (ne_eqb plan.frames 24 other) refl

pub word_other : (plan : SuperframePlan) (word : Option ℕ) (pieces : List Piece) → (plan.frames ≡ 24 → ⊥) → word_behind_all plan word pieces ≡ word
word_other plan word pieces other = rw (ne_eqb plan.frames 24 other) refl

-- those of a line
pub verdicts_are : (f_bits : List Role) (plan : SuperframePlan) (line : List Bool) → IsSuperframePlan plan → verdicts f_bits plan line ≡ checked plan None (track (in_superframe f_bits plan) line)
verdicts_are f_bits plan line fits = elim (cases_Bool (plan.frames == 24)) [
  | inl extended ↦ rw extended (judged-is f_bits plan line fits (eqb-true _ _ extended))
  | inr other ↦ rw other refl
]

-- ---- a step of the alignment machine

-- nothing is made ready by it
pub nothing_ready : (plan : SuperframePlan) (word : Option ℕ) (ready : List (List Bool)) → ready ≡ [] → checked plan word (map Delivered ready) ≡ []
nothing_ready plan word ready none = ap (λ (r : List (List Bool)). checked plan word (map Delivered r)) none ∙ checked_none plan word

pub nothing_behind : (plan : SuperframePlan) (word : Option ℕ) (ready : List (List Bool)) → ready ≡ [] → word_behind_all plan word (map Delivered ready) ≡ word
nothing_behind plan word ready none = ap (λ (r : List (List Bool)). word_behind_all plan word (map Delivered r)) none ∙ word_none plan word

-- no verdict is gained
same_checked : (plan : SuperframePlan) (word : Option ℕ) (ready : List (List Bool)) (was is : List Bool) → ready ≡ [] → is ≡ was → is ≡ was ++ checked plan word (map Delivered ready)
same_checked plan word ready was is none same = same ∙ sym (append-nil was) ∙ sym (ap (λ (x : List Bool). was ++ x) (nothing_ready plan word ready none))

-- those of the superframes that it made ready are gained
pub checks_grow : (plan : SuperframePlan) (word : Option ℕ) (step : Step) (ready : List (List Bool)) (before after : List Piece) → Grows step ready before after → word ≡ word_behind_all plan None before
    → checked plan None after ≡ checked plan None before ++ checked plan word (map Delivered ready)
checks_grow plan word Nothing ready before after g is = same_checked plan word ready (checked plan None before) (checked plan None after) g.0 (ap (checked plan None) g.1)
checks_grow plan word Rejected ready before after g is =
    same_checked plan word ready (checked plan None before) (checked plan None after) g.2
    (ap (checked plan None) g.4 ∙ checked_behind_gap plan g.0 (suc g.1) ∙ sym (checked_behind_gap plan g.0 g.1) ∙ sym (ap (checked plan None) g.3))
checks_grow plan word Aligned ready before after g is =
    ap (checked plan None) g.4 ∙ checked-append plan None before (map Delivered ready) ∙ ap (λ w. checked plan None before ++ checked plan w (map Delivered ready)) (sym is)
checks_grow plan word Frame ready before after g is =
    ap (checked plan None) g.4 ∙ checked-append plan None before (map Delivered ready) ∙ ap (λ w. checked plan None before ++ checked plan w (map Delivered ready)) (sym is)
checks_grow plan word Lost ready before after g is =
    same_checked plan word ready (checked plan None before) (checked plan None after) g.2 (ap (checked plan None) g.4 ∙ checked_behind_gap plan before 0)

-- and the word is kept
pub words_go : (plan : SuperframePlan) (word : Option ℕ) (step : Step) (ready : List (List Bool)) (before after : List Piece) → Grows step ready before after → word ≡ word_behind_all plan None before
    → word_after plan word step (map Delivered ready) ≡ word_behind_all plan None after
words_go plan word Nothing ready before after g is = nothing_behind plan word ready g.0 ∙ is ∙ sym (ap (word_behind_all plan None) g.1)
words_go plan word Rejected ready before after g is =
    nothing_behind plan word ready g.2 ∙ is ∙ ap (word_behind_all plan None) g.3 ∙ word_behind_gap plan g.0 g.1 ∙ sym (word_behind_gap plan g.0 (suc g.1)) ∙ sym (ap (word_behind_all plan None) g.4)
words_go plan word Aligned ready before after g is =
    ap (λ w. word_behind_all plan w (map Delivered ready)) is ∙ sym (word-append plan None before (map Delivered ready)) ∙ sym (ap (word_behind_all plan None) g.4)
words_go plan word Frame ready before after g is =
    ap (λ w. word_behind_all plan w (map Delivered ready)) is ∙ sym (word-append plan None before (map Delivered ready)) ∙ sym (ap (word_behind_all plan None) g.4)
words_go plan word Lost ready before after g is = sym (ap (word_behind_all plan None) g.4 ∙ word_behind_gap plan before 0)

-- ---- what it shows of the alignment

ends_aligned : (pieces : List Piece) (ready : List (List Bool)) → 1 ≤ length ready → is_some (last_frame (pieces ++ map Delivered ready)) ≡ true
ends_aligned pieces [] some = absurd (omega (arith, some))
ends_aligned pieces (frame ∷ []) some = ap is_some (last_more pieces frame)
ends_aligned pieces (frame ∷ next ∷ ready) some =
    ap (λ v. is_some (last_frame v)) (sym (append_assoc pieces (Delivered frame ∷ []) (map Delivered (next ∷ ready))))
    ∙ ends_aligned (pieces ++ Delivered frame ∷ []) (next ∷ ready) (omega arith)

pub unchanged : (b : Bool) → changed ALIGNED LOST b b ≡ []
unchanged true = refl
unchanged false = refl

changes : (a b c d : Bool) → a ≡ c → b ≡ d → changed ALIGNED LOST a b ≡ changed ALIGNED LOST c d
changes a b c d e f = ap (λ v. changed ALIGNED LOST v b) e ∙ ap (λ v. changed ALIGNED LOST c v) f

kinds_are : (step : Step) (ready : List (List Bool)) (before after : List Piece) → Grows step ready before after → alignment_kinds before after ≡ step_kinds step
kinds_are Nothing ready before after g = ap (alignment_kinds before) g.1 ∙ unchanged (is_some (last_frame before))
kinds_are Rejected ready before after g =
    changes _ _ false false (ap (λ v. is_some (last_frame v)) g.3 ∙ ap is_some (last_gap g.0 g.1)) (ap (λ v. is_some (last_frame v)) g.4 ∙ ap is_some (last_gap g.0 (suc g.1)))
kinds_are Aligned ready before after g =
    changes _ _ false true (ap (λ v. is_some (last_frame v)) g.3 ∙ ap is_some (last_gap g.0 g.1)) (ap (λ v. is_some (last_frame v)) g.4 ∙ ends_aligned before ready (omega (arith, g.2)))
kinds_are Frame ready before after g =
    changes _ _ true true (ap (λ v. is_some (last_frame v)) g.3 ∙ ap is_some (last_more g.0 g.1)) (ap (λ v. is_some (last_frame v)) g.4 ∙ ends_aligned before ready (omega (arith, g.2)))
kinds_are Lost ready before after g =
    changes _ _ true false (ap (λ v. is_some (last_frame v)) g.3 ∙ ap is_some (last_more g.0 g.1)) (ap (λ v. is_some (last_frame v)) g.4 ∙ ap is_some (last_gap before 0))

-- ---- the events of a bit

-- behind those of AIS come those of the step
pub step_events : (f_bits : List Role) (plan : SuperframePlan) (word : Option ℕ) (step : Step) (ready : List (List Bool)) (line : List Bool) (bit : Bool) → IsSuperframePlan plan
    → Grows step ready (track (in_superframe f_bits plan) line) (track (in_superframe f_bits plan) (line ++ bit ∷ [])) → word ≡ word_behind_all plan None (track (in_superframe f_bits plan) line)
    → superframe_events f_bits plan line bit ≡ tell top (next_bit line) (ais_kinds plan.len line bit) ++ tell top (next_bit line) (step_kinds step ++ crc_kinds (checked plan word (map Delivered ready)))
unfolding superframe_events
step_events f_bits plan word step ready line bit fits g is =
    let s : FrameShape = in_superframe f_bits plan in
    let after : List Bool = line ++ bit ∷ [] in
    let n : ℕ = next_bit line in
    let ais : List Kind = ais_kinds plan.len line bit in
    let was : List Bool = verdicts f_bits plan line in
    let more : List Bool = checked plan word (map Delivered ready) in
    let grown : verdicts f_bits plan after ≡ was ++ more =
    verdicts_are f_bits plan after fits ∙ checks_grow plan word step ready (track s line) (track s after) g is ∙ ap (λ (x : List Bool). x ++ more) (sym (verdicts_are f_bits plan line fits)) in
    let new : drop (length was) (verdicts f_bits plan after) ≡ more = ap (drop (length was)) grown ∙ drop-append_seam was more in
    ap (λ (k : List Kind). tell top n (ais ++ k ++ crc_kinds (drop (length was) (verdicts f_bits plan after)))) (kinds_are step ready (track s line) (track s after) g)
    ∙ ap (λ (x : List Bool). tell top n (ais ++ step_kinds step ++ crc_kinds x)) new
    ∙ ap (tell top n) (append_assoc ais (step_kinds step) (crc_kinds more))
    ∙ map-append (event_of top n) ais (step_kinds step ++ crc_kinds more)

-- more superframes of those that a step made ready
pub ready_more : (ready : List (List Bool)) (n : ℕ) → n < length ready → map Delivered (take (n + 1) ready) ≡ map Delivered (take n ready) ++ Delivered (slice_index_or ready n []) ∷ []
ready_more ready n inside = ap (map Delivered) (take_more ready n [] inside) ∙ map-append Delivered (take n ready) (slice_index_or ready n [] ∷ [])

pub checked_more : (plan : SuperframePlan) (word : Option ℕ) (ready : List (List Bool)) (n : ℕ) → n < length ready
    → crc_kinds (checked plan word (map Delivered (take (n + 1) ready)))
    ≡ crc_kinds (checked plan word (map Delivered (take n ready))) ++ crc_kinds (checked plan (word_behind_all plan word (map Delivered (take n ready))) (Delivered (slice_index_or ready n []) ∷ []))
checked_more plan word ready n inside =
    let before : List Piece = map Delivered (take n ready) in
    let one : List Piece = Delivered (slice_index_or ready n []) ∷ [] in
    ap (λ (p : List Piece). crc_kinds (checked plan word p)) (ready_more ready n inside) ∙ ap crc_kinds (checked-append plan word before one)
    ∙ flat_map-append (λ errored. if errored then CRC ∷ [] else []) (checked plan word before) (checked plan (word_behind_all plan word before) one)

pub word_more : (plan : SuperframePlan) (word : Option ℕ) (ready : List (List Bool)) (n : ℕ) → n < length ready
    → word_behind_all plan word (map Delivered (take (n + 1) ready)) ≡ word_behind_all plan (word_behind_all plan word (map Delivered (take n ready))) (Delivered (slice_index_or ready n []) ∷ [])
word_more plan word ready n inside =
    ap (word_behind_all plan word) (ready_more ready n inside) ∙ word-append plan word (map Delivered (take n ready)) (Delivered (slice_index_or ready n []) ∷ [])

-- ---- bits that show nothing

-- an alignment holds behind a line or none does, and these are its verdicts
pub record Alike (f_bits : List Role) (plan : SuperframePlan) (line : List Bool) (aligned : Bool) (before : List Bool) : Type 0 where
  pub aligned_is : is_some (last_frame (track (in_superframe f_bits plan) line)) ≡ aligned
  pub verdicts_stay : checked plan None (track (in_superframe f_bits plan) line) ≡ before

quiet_bit : (f_bits : List Role) (plan : SuperframePlan) (line : List Bool) (bit : Bool) (aligned : Bool) (before : List Bool) → IsSuperframePlan plan → ais_kinds plan.len line bit ≡ []
    → Alike f_bits plan line aligned before → Alike f_bits plan (line ++ bit ∷ []) aligned before → superframe_events f_bits plan line bit ≡ []
unfolding superframe_events
quiet_bit f_bits plan line bit aligned before fits calm was is =
    let s : FrameShape = in_superframe f_bits plan in
    let after : List Bool = line ++ bit ∷ [] in
    let n : ℕ = next_bit line in
    let kinds : alignment_kinds (track s line) (track s after) ≡ [] = changes _ _ aligned aligned was.aligned_is is.aligned_is ∙ unchanged aligned in
    let old : verdicts f_bits plan line ≡ before = verdicts_are f_bits plan line fits ∙ was.verdicts_stay in
    let now : verdicts f_bits plan after ≡ before ++ [] = verdicts_are f_bits plan after fits ∙ is.verdicts_stay ∙ sym (append-nil before) in
    let none : drop (length (verdicts f_bits plan line)) (verdicts f_bits plan after) ≡ [] =
    ap (λ (x : List Bool). drop (length x) (verdicts f_bits plan after)) old ∙ ap (drop (length before)) now ∙ drop-append_seam before [] in
    ap (λ (k : List Kind). tell top n (k ++ alignment_kinds (track s line) (track s after) ++ crc_kinds (drop (length (verdicts f_bits plan line)) (verdicts f_bits plan after)))) calm
    ∙ ap (λ (k : List Kind). tell top n ([] ++ k ++ crc_kinds (drop (length (verdicts f_bits plan line)) (verdicts f_bits plan after)))) kinds
    ∙ ap (λ (x : List Bool). tell top n ([] ++ [] ++ crc_kinds x)) none

pub quiet_bits : (f_bits : List Role) (plan : SuperframePlan) (line bits : List Bool) (aligned : Bool) (before : List Bool) → IsSuperframePlan plan → IsCalm plan.len line bits
    → ((front rest : List Bool) → bits ≡ front ++ rest → Alike f_bits plan (line ++ front) aligned before) → IsQuiet (superframe_events f_bits plan) line bits
quiet_bits f_bits plan line [] aligned before fits calm alike = tt
quiet_bits f_bits plan line (bit ∷ bits) aligned before fits calm alike =
    let A : List Bool → Type 0 = λ l. Alike f_bits plan l aligned before in (
      quiet_bit f_bits plan line bit aligned before fits calm.0 (subst A (append-nil line) (alike [] (bit ∷ bits) refl)) (alike (bit ∷ []) bits refl),
      quiet_bits f_bits plan (line ++ bit ∷ []) bits aligned before fits calm.1
          (λ front rest e. subst A (sym (append_assoc line (bit ∷ []) front)) (alike (bit ∷ front) rest (ap (λ (x : List Bool). bit ∷ x) e))),
    )
