-- A longer line of a node without stores takes no fewer bits.
use Rattle.std.proofs.Common.{◌≡◌, inl, inr, ℕ, zero, suc, ◌+◌, ◌*◌, ◌/◌, ◌%◌, ◌<◌, ◌≤◌, ◌^◌, length, subst, Bool, true, false, ◌&&◌, List, map, Option, None, cond, eqb, refl, sym, ap, ◌∙◌, arith, eqb-true}
use Rattle.std.specs.List.{range_with_len}
use Rattle.std.proofs.lemmas.Bool.{cases_Bool, cases_lt}
use Rattle.pdh_shape.specs.declared.role.Role.{Role}
use Rattle.pdh_shape.specs.declared.role.Role.TheVariants.{Align, Service, Control, Just, Info}
use Rattle.pdh_shape.specs.declared.place.Path.{Path}
use Rattle.pdh_shape.specs.Frame.{FrameShape, IsFrame}
use Rattle.pdh_shape.specs.Tributary.{reads_from, reads_below, HasTributaries}
use Rattle.pdh_line.specs.Sending.{given}
use Rattle.pdh_line.proofs.SendingLaws.{reads_below-suc, reads_below-all, given-locked}
use Rattle.pdh_tx.specs.declared.tx.Tx.{Ghosts}
use Rattle.std.proofs.lemmas.List.{length-map}
use Rattle.pdh_tx.specs.declared.tx.TxStop.{TxStop}
use Rattle.pdh_tx.specs.Meaning.{Plan, Supply, StaysFree}
use Rattle.pdh_tx.specs.Body.{IsKind}
use Rattle.pdh_tx.specs.laws.Each.{each_now}
use Rattle.pdh_tx.specs.laws.StoredLaws.{stored_long}
use Rattle.pdh_locked.specs.Children.{placed_in, held_in, locked_kind, Before, Through, HoldTo}
use Rattle.pdh_tx.specs.Locked.{locked_to, locked_beginning, locked_read, locked_meaning}
use Rattle.pdh_tx.specs.Follows.{Follows}
use Rattle.pdh_tx.specs.laws.Growing.{given_more, grows_to}
use Rattle.pdh_tx.specs.laws.Longer.{clears_next, clears_map, each_longer}
use Rattle.pdh_tx.specs.laws.Stepping.{frame_is, slot_is, following}

-- ---- slots

one_more : (b : Bool) → cond b 1 0 ≤ 1
one_more true = omega arith
one_more false = omega arith

pub below_grows : (s : FrameShape) (j t u : ℕ) → t ≤ u → reads_below s j false t ≤ reads_below s j false u
below_grows s j t u h = grows_to (reads_below s j false) t u (λ n. (let e = reads_below-suc s j false n in omega arith)) h

-- a slot reads only tributaries that the shape has
reads_known : (s : FrameShape) → HasTributaries s → (t j : ℕ) (r : Role) → t < s.len → s.role t ≡ r → reads_from j false r ≡ true → j < s.tribs
reads_known s has t j (Info k) within is h = (let same = eqb-true k j h in let known = has.info_known t k within is in omega arith)
reads_known s has t j (Just k) within is h = absurd (no (eqb k j) h)
  where
    no : (b : Bool) → (b && false) ≡ true → ⊥
    no true e = cc
    no false e = cc
reads_known s has t j (Align b) within is h = absurd (cc h)
reads_known s has t j (Service k) within is h = absurd (cc h)
reads_known s has t j (Control k copy) within is h = absurd (cc h)

reads_none : (s : FrameShape) → HasTributaries s → (j t : ℕ) → s.tribs ≤ j → t ≤ s.len → reads_below s j false t ≡ 0
reads_none s has j zero past within = refl
reads_none s has j (suc t) past within = elim (cases_Bool (reads_from j false (s.role t))) [
  | inl reads ↦ (let known = reads_known s has t j (s.role t) (omega arith) refl reads in absurd (omega arith))
  | inr none ↦ reads_below-suc s j false t ∙ ap (λ b. reads_below s j false t + cond b 1 0) none ∙ (let e = reads_none s has j t past (omega arith) in omega arith)
]

-- no more slots of a frame read a tributary than all of them
pub reads_most : (s : FrameShape) → HasTributaries s → (j t : ℕ) → t ≤ s.len → reads_below s j false t ≤ s.low
reads_most s has j t within = elim (cases_lt j s.tribs) [
  | inl known ↦ (let g = below_grows s j t s.len within in let e = reads_below-all s j false has known in omega arith)
  | inr past ↦ (let e = reads_none s has j t past within in omega arith)
]

-- ---- from one slot to the next

-- what the node has taken of a tributary
pub locked_is : (s : FrameShape) (n t x : ℕ) → n * s.len + t ≡ x → t < s.len → eqb s.copies 0 ≡ true → (counts : ℕ → ℕ) (j : ℕ) → given s j counts x ≡ locked_to s n t j
locked_is s n t x place within locked counts j =
    given-locked s j counts x locked ∙ ap (λ q. q * s.low + reads_below s j false (x % s.len)) (frame_is s n t x place within) ∙ ap (λ r. n * s.low + reads_below s j false r) (slot_is s n t x place within)

-- a frame's end is the next one's start
pub locked_follows : (s : FrameShape) → HasTributaries s → (n t n' t' : ℕ) → Follows s n t n' t' → (j : ℕ) → j < s.tribs → locked_to s n (suc t) j ≡ locked_to s n' t' j
locked_follows s has n t n' t' follows j known = elim (cases_lt 0 t') [
  | inl some ↦ let there = follows.within some in sym (ap (λ v. locked_to s v t' j) there.0 ∙ ap (λ v. locked_to s n v j) there.1)
  | inr none ↦
      let zero : t' ≡ 0 = omega arith in
      let there = follows.next zero in
      let all : locked_to s n (suc t) j ≡ n * s.low + s.low = ap (λ v. locked_to s n v j) there.1 ∙ ap (λ v. n * s.low + v) (reads_below-all s j false has known) in
      let e : suc n * s.low + 0 ≡ n * s.low + s.low = omega arith in
      all ∙ sym (ap (λ v. locked_to s v t' j) there.0 ∙ ap (λ v. locked_to s (suc n) v j) zero ∙ e)
]

locked_less : (s : FrameShape) → HasTributaries s → (n t n' t' : ℕ) → Follows s n t n' t' → (j : ℕ) → t < s.len → locked_to s n t j ≤ locked_to s n' t' j
locked_less s has n t n' t' follows j within = elim (cases_lt j s.tribs) [
  | inl known ↦ (let e = locked_follows s has n t n' t' follows j known in let g = below_grows s j t (suc t) (omega arith) in omega arith)
  | inr past ↦ elim (cases_lt 0 t') [
    | inl some ↦ let there = follows.within some in (let p = ap (λ v. locked_to s v t' j) there.0 in let q = ap (λ v. locked_to s n v j) there.1 in let g = below_grows s j t (suc t) (omega arith) in omega arith)
    | inr none ↦
        let zero : t' ≡ 0 = omega arith in
        let there = follows.next zero in
        let p : locked_to s n' t' j ≡ suc n * s.low + 0 = ap (λ v. locked_to s v t' j) there.0 ∙ ap (λ v. locked_to s (suc n) v j) zero in
        let e : suc n * s.low ≡ n * s.low + s.low = omega arith in
        let f = reads_none s has j t past (omega arith) in
        omega arith
  ]
]

pub given_less : (s : FrameShape) → IsFrame s → HasTributaries s → eqb s.copies 0 ≡ true → (counts : ℕ → ℕ) (j x : ℕ) → given s j counts x ≤ given s j counts (suc x)
given_less s frame has locked counts j x =
    let n : ℕ = x / s.len in
    let t : ℕ = x % s.len in
    let place : n * s.len + t ≡ x = omega arith in
    let within : t < s.len = omega (arith, frame.some_slots) in
    let next = following s n t within in
    let here = locked_is s n t x place within locked counts j in
    let there = locked_is s next.0 next.1 (suc x) (next.2.place ∙ ap suc place) next.2.inside locked counts j in
    let less = locked_less s has n t next.0 next.1 next.2 j within in
    omega (arith, here, there, less)

pub locked_grows : {C : Type 0} (tx : Ghosts C) (grows : (c : C) (plan : Plan) (x k : ℕ) → (tx.meaning c).given plan x k ≤ (tx.meaning c).given plan (suc x) k) (s : FrameShape) → IsFrame s → HasTributaries s → eqb s.copies 0 ≡ true
    → (path : Path) (children : List C) (plan : Plan) (x k : ℕ) → (locked_meaning s path (map tx.meaning children)).given plan x k ≤ (locked_meaning s path (map tx.meaning children)).given plan (suc x) k
locked_grows tx grows s frame has locked path children plan x k =
    given_more tx.meaning plan children (λ j. given s j (plan.counts path j) x) (λ j. given s j (plan.counts path j) (suc x)) k (λ c n k. grows c plan n k) (λ j. given_less s frame has locked (plan.counts path j) j x)

read_longer : (b : Bool) (few more : Option TxStop) → (few ≡ None → more ≡ None) → cond b few None ≡ None → cond b more None ≡ None
read_longer true few more p h = p h
read_longer false few more p h = h

-- longer lists bring nothing into its way
pub locked_longer : {C : Type 0} (tx : Ghosts C) → ((c : C) → StaysFree (tx.meaning c)) → (s : FrameShape) (path : Path) (children : List C) → StaysFree (locked_meaning s path (map tx.meaning children))
locked_longer tx longer s path children plan few more x le =
    let ms = map tx.meaning children in
    let n : ℕ = x / s.len in
    let t : ℕ = x % s.len in
    clears_next (locked_beginning path plan n t) (locked_beginning path plan n t) (map (locked_read s plan ms few n t) (range_with_len 0 s.tribs)) (map (locked_read s plan ms more n t) (range_with_len 0 s.tribs)) (λ h. h)
    (clears_map (locked_read s plan ms few n t) (locked_read s plan ms more n t) (range_with_len 0 s.tribs)
    (λ j. read_longer (reads_from j false (s.role t)) _ _ (each_longer tx.meaning longer plan few more le children j (locked_to s n t j))))

pub locked_is_kind : (s : FrameShape) → HasTributaries s → eqb s.copies 0 ≡ true → IsKind s (locked_kind s)
locked_is_kind s has locked = record {
  taken_is = λ path plan n t x j place within. locked_is s n t x place within locked (plan.counts path j) j;
  taken_next = λ path plan n t n' t' j follows known. locked_follows s has n t n' t' follows j known;
}

module _ {C : Type 0} (tx : Ghosts C) (s : FrameShape) (has : HasTributaries s) (path : Path) (plan : Plan) (children : List C) (long : length children ≡ s.tribs) (n t n' t' : ℕ) (follows : Follows s n t n' t') where
  pub locked_next : Through tx s path plan children n (suc t) → Before tx s path plan children n' t'
  locked_next made = record {
    made = each_now (λ c. placed_in tx c plan) children s.tribs long _ _ _ _ (locked_follows s has n t n' t' follows) (locked_follows s has n t n' t' follows) made.made;
    scheduled = λ h. subst (λ v. v < plan.frames path) (sym (follows.within h).0) made.scheduled;
    bounded = λ h. subst (λ v. suc v < 2 ^ 64) (sym (follows.within h).0) made.bounded;
  }

  pub locked_holds : (supply : Supply) → HoldTo tx s path plan children n (suc t) supply → HoldTo tx s path plan children n' t' supply
  locked_holds supply made = each_now (λ c. held_in tx c _) children s.tribs long _ _ _ _ (locked_follows s has n t n' t' follows) (locked_follows s has n t n' t' follows) made

pub locked_count : {C : Type 0} (tx : Ghosts C) (s : FrameShape) (children : List C) (TRIBS : ℕ) → s.tribs ≡ TRIBS → length children ≡ TRIBS → length (map tx.meaning children) ≡ s.tribs
locked_count tx s children TRIBS is count = length-map children tx.meaning ∙ stored_long children s.tribs TRIBS is count
