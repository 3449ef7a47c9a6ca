-- The beginning of a frame.
use mathlib.Core.Path.{fun_ext}
use Rattle.std.proofs.Common.{◌≡◌, ℕ, suc, ◌+◌, ◌<◌, ◌≤◌, Bool, true, false, ◌&&◌, List, [], ◌∷◌, length, map, cond, eqb, leb, refl, sym, ap, ◌∙◌, subst, arith, Option, Some, None}
use Rattle.std.proofs.lemmas.Bool.{ne_eqb, eq-eqb, lt-ltb, le-ltb, lt-leb, le-leb}
use Rattle.pdh_edge.specs.Ports.{Inputs, nothing}
use Rattle.pdh_shape.specs.declared.place.Path.{Path}
use Rattle.pdh_shape.specs.Frame.{FrameShape, IsFrame}
use Rattle.pdh_shape.specs.OwnNumbers.{lead}
use Rattle.pdh_shape.specs.declared.place.Level.{Level}
use Rattle.pdh_shape.specs.Tributary.{reads_below}
use Rattle.pdh_levels.specs.Levels.{level_stores}
use Rattle.pdh_line.specs.Progress.{stores_of}
use Rattle.pdh_line.specs.Progress.Stores.{Elastic, Locked}
use Rattle.pdh_line.specs.Sending.{HasStores, came_before, shape_numbers}
use Rattle.pdh_line.proofs.SendingLaws.{came_before-first}
use Rattle.pdh_tx.specs.declared.tx.TxStop.{TxStop}
use Rattle.pdh_tx.specs.declared.tx.TxStop.TheVariants.{NoFrame}
use Rattle.pdh_tx.specs.Meaning.{Meaning, Plan, Supply, HasNumbers, is_locked}
use Rattle.pdh_tx.specs.Held.{first_some, some_if, unslipped}
use Rattle.pdh_tx.specs.Slipping.{read_to}
use Rattle.pdh_tx.proofs.Readouts.{none-by}
use Rattle.pdh_tx.specs.declared.tx.Tx.{Ghosts}
use Rattle.pdh_tx.specs.declared.tributary.Tributary.{Tributary}
use Rattle.pdh_tx.specs.Tributary.{meaning_in, child_in}
use Rattle.pdh_tx.specs.Node.{Advance, Blocked, beginning, taken_to, led_to, came_to, leads}
use Rattle.pdh_tx.specs.laws.Stepping.{taken_later}
use Rattle.pdh_tx.specs.laws.Growing.{given_more}
use Rattle.pdh_tx.proofs.Moving.{moves_to, inside, takes_none}

module _ {W R : Type 0} (placed : W → Plan → ℕ → R → Type 0) (held : W → Supply → ℕ → R → Type 0) (meaning : W → Meaning) (plan : Plan) where
  -- the same numbers, and what was read, written otherwise
  pub advance_change : (ms : List Meaning) (u v : List W) (made x more y : ℕ → ℕ) (read r left l : ℕ → R) (steps steps' : (ℕ → ℕ) → List (Option TxStop)) (a b : Inputs) → length ms ≡ length v
      → ((j : ℕ) → made j ≡ x j) → ((j : ℕ) → j < length ms → more j ≡ y j) → ((j : ℕ) → read j ≡ r j) → ((j : ℕ) → j < length ms → left j ≡ l j) → ((size : ℕ → ℕ) → first_some (steps size) ≡ None → first_some (steps' size) ≡ None)
      → Advance placed held ms plan u v made more read left steps a b → Advance placed held ms plan u v x y r l steps' a b
  advance_change ms u v made x more y read r left l steps steps' a b long first last reads lefts same advance =
      let P : (ℕ → ℕ) → Type 0 = λ f. Advance placed held ms plan u v f more read left steps a b in
      let Q : (ℕ → R) → Type 0 = λ f. Advance placed held ms plan u v x more f left steps a b in
      let now : Advance placed held ms plan u v x more r left steps a b = subst Q (fun_ext reads) (subst P (fun_ext first) advance) in
      record {
        place = λ j w e.
            let known : j < length ms = (let i = inside v j w e in omega arith) in
            let N : ℕ → Type 0 = λ n. placed w plan n (left j) in
            let L : R → Type 0 = λ r. placed w plan (y j) r in
            subst L (lefts j known) (subst N (last j known) (now.place j w e));
        moves = moves_to held meaning plan ms u v x more y r left l a b long last lefts now.moves;
        free = λ size fit. same size (now.free size fit);
      }

  pub blocked_change : (ms : List Meaning) (made x most y : ℕ → ℕ) (steps steps' : (ℕ → ℕ) → List (Option TxStop)) (stop : TxStop) (a b : Inputs) (f g : ℕ)
      → ((j : ℕ) → made j ≡ x j) → ((j : ℕ) → most j ≡ y j) → ((size : ℕ → ℕ) → first_some (steps' size) ≡ first_some (steps size))
      → Blocked ms plan made most steps stop a b f g → Blocked ms plan x y steps' stop a b f g
  blocked_change ms made x most y steps steps' stop a b f g first last same blocked =
      let P : (ℕ → ℕ) → Type 0 = λ h. Blocked ms plan h most steps stop a b f g in
      let Q : (ℕ → ℕ) → Type 0 = λ h. Blocked ms plan x h steps stop a b f g in
      let now : Blocked ms plan x y steps stop a b f g = subst Q (fun_ext last) (subst P (fun_ext first) blocked) in
      record { stays = now.stays; met = record { counted = now.met.counted; is_first = λ h size fit. same size ∙ now.met.is_first h size fit } }

  module _ (s : FrameShape) (path : Path) where
    pub started : (n t j : ℕ) → came_to s path plan n t 0 j ≡ came_before s (plan.counts path j) n t
    started n t j = ap (λ b. cond b (came_before s (plan.counts path j) n (suc t)) (came_before s (plan.counts path j) n t)) (le-ltb j 0 (omega arith))

    pub ended : (n t i j : ℕ) → j < i → came_to s path plan n t i j ≡ came_before s (plan.counts path j) n (suc t)
    ended n t i j h = ap (λ b. cond b (came_before s (plan.counts path j) n (suc t)) (came_before s (plan.counts path j) n t)) (lt-ltb j i h)

    pub begun_later : (n t j : ℕ) → 0 < n + t → taken_to s path plan n t j ≡ came_to s path plan n t 0 j
    begun_later n t j h = taken_later s path plan n t j h ∙ sym (started n t j)

    pub begun_zero : (n j : ℕ) → n ≡ 0 → taken_to s path plan n 0 j ≡ led_to 0 j
    begun_zero n j h = ap (λ m. taken_to s path plan m 0 j) h ∙ sym (ap (λ b. cond b lead 0) (le-ltb j 0 (omega arith)))

    pub read_zero : (n j : ℕ) → HasStores s → n ≡ 0 → read_to s path plan n 0 j ≡ unslipped 0
    read_zero n j stores h = ap (λ m. read_to s path plan m 0 j) h ∙ none-by s j (plan.counts path j) plan.mode stores

    pub led_all : (n i j : ℕ) → n ≡ 0 → IsFrame s → j < i → led_to i j ≡ came_to s path plan n 0 0 j
    led_all n i j h frame l =
        ap (λ b. cond b lead 0) (lt-ltb j i l) ∙ sym (started n 0 j ∙ ap (λ m. came_before s (plan.counts path j) m 0) h ∙ came_before-first s (plan.counts path j) frame)

    -- inside a frame nothing begins
    pub steps_inside : (ms : List Meaning) (size : ℕ → ℕ) (n t : ℕ) → 0 < t → beginning s path plan ms size n t ≡ []
    steps_inside ms size n t h =
        ap (λ b. cond b (some_if (leb (plan.frames path) n) (NoFrame path) ∷ cond (eqb n 0) (leads s plan ms size) []) []) (ne_eqb t 0 (λ z. absurd (omega arith)))

    -- a frame that is scheduled
    pub steps_later : (ms : List Meaning) (size : ℕ → ℕ) (n : ℕ) → n < plan.frames path → 0 < n → first_some (beginning s path plan ms size n 0) ≡ None
    steps_later ms size n scheduled h =
        ap (λ b. first_some (some_if b (NoFrame path) ∷ cond (eqb n 0) (leads s plan ms size) [])) (lt-leb _ _ scheduled)
        ∙ ap (λ b. first_some (cond b (leads s plan ms size) [])) (ne_eqb n 0 (λ z. absurd (omega arith)))

    pub steps_first : (ms : List Meaning) (size : ℕ → ℕ) (n : ℕ) → n < plan.frames path → n ≡ 0 → first_some (beginning s path plan ms size n 0) ≡ first_some (leads s plan ms size)
    steps_first ms size n scheduled h =
        ap (λ b. first_some (some_if b (NoFrame path) ∷ cond (eqb n 0) (leads s plan ms size) [])) (lt-leb _ _ scheduled)
        ∙ ap (λ b. first_some (cond b (leads s plan ms size) [])) (eq-eqb n 0 h)

    pub steps_none : (ms : List Meaning) (size : ℕ → ℕ) (n : ℕ) → plan.frames path ≤ n → first_some (beginning s path plan ms size n 0) ≡ Some (NoFrame path)
    steps_none ms size n none = ap (λ b. first_some (some_if b (NoFrame path) ∷ cond (eqb n 0) (leads s plan ms size) [])) (le-leb _ _ none)

    taken_start : (n j : ℕ) → taken_to s path plan n 0 j ≤ came_to s path plan n 0 0 j
    taken_start n j = (let e = started n 0 j in let g = go (eqb n 0 && eqb 0 0) in omega (arith, e, g))
      where
        go : (b : Bool) → cond b 0 (came_before s (plan.counts path j) n 0) ≤ came_before s (plan.counts path j) n 0
        go true = omega arith
        go false = omega arith

    -- a frame that isn't scheduled
    pub blocked_none : (ws : List W) (n : ℕ) (a : Inputs) (f : ℕ) → ((w : W) (n k : ℕ) → (meaning w).given plan n k ≤ (meaning w).given plan (suc n) k) → plan.frames path ≤ n
        → Blocked (map meaning ws) plan (taken_to s path plan n 0) (came_to s path plan n 0 0) (λ size. beginning s path plan (map meaning ws) size n 0) (NoFrame path) a a f f
    blocked_none ws n a f grows none = record {
      stays = record {
        given = nothing;
        takes = takes_none a;
        others = λ k h. refl;
        no_more = λ k h. (let g = given_more meaning plan ws (taken_to s path plan n 0) (came_to s path plan n 0 0) k grows (λ j. taken_start n j) in omega (arith, g));
        used_up = tt;
      };
      met = record { counted = refl; is_first = λ h size fit. steps_none (map meaning ws) size n none };
    }

-- the children's meanings are those of the tributaries
pub meanings : {C : Type 0} (tx : Ghosts C) (ws : List (Tributary C)) → map (meaning_in tx) ws ≡ map tx.meaning (map child_in ws)
meanings tx [] = refl
meanings tx (w ∷ ws) = ap (λ l. tx.meaning w.child ∷ l) (meanings tx ws)

-- the level of a shape that has control bits has stores, one for each tributary
pub elastic_level : (s : FrameShape) (level : Level) → eqb s.copies 0 ≡ false → HasNumbers level (shape_numbers s) → level.locked ≡ false
elastic_level s level stores has = has.locked ∙ ap (λ b. is_locked (cond b (Locked (λ j t. reads_below s j false t)) Elastic)) stores

pub all_stores : (s : FrameShape) (level : Level) → eqb s.copies 0 ≡ false → HasNumbers level (shape_numbers s) → level_stores level ≡ s.tribs
all_stores s level stores has =
    ap (λ b. stores_of (record { len = level.len; tribs = level.tribs; low = level.low; stores = cond b (Locked (λ j t. 0)) Elastic })) (elastic_level s level stores has) ∙ has.tribs
