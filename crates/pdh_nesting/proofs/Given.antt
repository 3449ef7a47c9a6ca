-- What comes back was given: where no store underflows, no more of a leaf's bits come back than the leaf has given, and it
-- gives no more than it enters. So what a leaf receives is a prefix of its list.
use Rattle.std.proofs.Common.{◌≡◌, ℕ, ◌+◌, ◌*◌, ◌/◌, ◌%◌, ◌<◌, ◌≤◌, Bool, false, eqb, List, [], ◌∷◌, length, take, slice_index_or, refl, sym, ap, ◌∙◌, subst, inl, inr, arith}
use Rattle.std.proofs.lemmas.List.{get_or-take, length-take-le}
use Rattle.std.proofs.lemmas.List.FromFn.{fill_by_all}
use Rattle.std.proofs.lemmas.Bool.{cases_Bool}
use Rattle.std.proofs.lemmas.Nat.{div-mul-add, mod-mul-add}
use Rattle.std.proofs.Math.Nat.{mul-le-mul_right}
use Rattle.pdh_shape.specs.declared.role.Service.{Service as Say}
use Rattle.pdh_shape.specs.Frame.{FrameShape}
use Rattle.pdh_line.specs.Sending.Mode.{Plain}
use Rattle.pdh_line.specs.Sending.{HasStores, shape_numbers, begun, given, front, given_back}
use Rattle.pdh_line.specs.Events.{underflows}
use Rattle.pdh_line.specs.Progress.{entered_by}
use Rattle.pdh_line.proofs.SendingLaws.{given-stores}
use Rattle.pdh_nesting.specs.Chains.{width, top_len, AreFrames}
use Rattle.pdh_line.specs.Nodes.{child, Counts, given_at, entered_at}
use Rattle.pdh_nesting.specs.Sending.{chain_line, line_with, content_of, given_below, entered_below, ArriveSingly}
use Rattle.pdh_nesting.specs.Receiving.{far, back_below}
use Rattle.pdh_nesting.specs.Events.{events_in, events_below, NoneEmpty}
use Rattle.pdh_nesting.proofs.Nodes.{taken_once, given_once, given-entered_by, given_back-grows, given_back-given}
use Rattle.pdh_nesting.proofs.EventParts.{lead_none, arrival_none, underflow_none, read_none, events_below-each}
use Rattle.pdh_line.proofs.LeafNumbers.{leaf-tributary, leaf-below, div-one}
use Rattle.pdh_nesting.proofs.RoundTrip.{far_front}

-- of a longer line no fewer of a leaf's bits come back
pub back_below-grows : (chain : List FrameShape) (counts : Counts) (path : List ℕ) (x y k : ℕ) → AreFrames chain → x ≤ y
    → back_below chain counts path x k ≤ back_below chain counts path y k
unfolding back_below
back_below-grows [] counts path x y k are h = h
back_below-grows (s ∷ below) counts path x y k are h =
    let j : ℕ = k / width below in
    back_below-grows below counts (child path j) (given_back s (counts path j) (x / s.len)) (given_back s (counts path j) (y / s.len)) (k % width below) are.2
    (given_back-grows s (counts path j) x y are.0 h)

-- ---- no more comes back than was given

-- where no bit before a node's bit x has an event, none of the bits has one that a tributary made for it
none_taken : (s : FrameShape) (below : List FrameShape) (counts : Counts) (path : List ℕ) (x j i : ℕ) → AreFrames (s ∷ below) → j < s.tribs
    → (HasStores s → (n : ℕ) → n < begun s x → counts path j n ≤ s.len) → ((y : ℕ) → y < x → events_in Plain (s ∷ below) counts path y ≡ []) → i < given s j (counts path j) x
    → events_in Plain below counts (child path j) i ≡ []
none_taken s below counts path x j i are known single none h =
    elim (cases_Bool (eqb s.copies 0)) [
      | inl locked ↦
          let read = given_once s j (counts path j) are.0 are.1 known locked x i h in
          subst (λ i. events_in Plain below counts (child path j) i ≡ []) read.3 (read_none s below counts path locked j read.0 (none read.0 read.1) known read.2)
      | inr stores ↦ elim (taken_once s (counts path j) x i are.0 (single stores) (subst (λ n. i < n) (given-stores s j (counts path j) x stores) h)) [
        | inl leads ↦ lead_none s below counts path stores j i (none 0 leads.0) known leads.1
        | inr arrived ↦
            let y : ℕ = arrived.0 in
            subst (λ i. events_in Plain below counts (child path j) i ≡ []) arrived.3 (arrival_none s below counts path stores j y (none y arrived.1) known arrived.2)
      ]
    ]

-- and no tributary of the node underflows before its bit x
none_underflows : (s : FrameShape) (below : List FrameShape) (counts : Counts) (path : List ℕ) (x j : ℕ) → j < s.tribs → ((y : ℕ) → y < x → events_in Plain (s ∷ below) counts path y ≡ [])
    → HasStores s → (m u : ℕ) → u < s.len → m * s.len + u < x → underflows s j (counts path j) m u ≡ false
none_underflows s below counts path x j known none stores m u inside h =
    ap (λ n. underflows s j (counts path j) n u) (sym (div-mul-add m s.len u inside))
    ∙ ap (underflows s j (counts path j) ((m * s.len + u) / s.len)) (sym (mod-mul-add m s.len u inside))
    ∙ underflow_none s below counts path stores j (m * s.len + u) (none (m * s.len + u) h) known

-- Where no bit before a node's bit x has an event, no store at or below it underflows. A slot that brings two bits would
-- list the events of the first alone, so at most one arrives in a slot.
pub none-empty : (chain : List FrameShape) (counts : Counts) (path : List ℕ) (x : ℕ) → AreFrames chain → ArriveSingly chain counts path x
    → ((y : ℕ) → y < x → events_in Plain chain counts path y ≡ []) → NoneEmpty chain counts path x
unfolding ArriveSingly NoneEmpty
none-empty [] counts path x are singly none = tt
none-empty (s ∷ below) counts path x are singly none =
    λ j known. (
      none_underflows s below counts path x j known none,
      none-empty below counts (child path j) (given s j (counts path j) x) are.2 (singly j known).1 (λ i lt. none_taken s below counts path x j i are known (singly j known).0 none lt),
    )

-- and where no store underflows, no more of a leaf's bits come back than the leaf has given
pub back-given : (chain : List FrameShape) (counts : Counts) (path : List ℕ) (x k : ℕ) → AreFrames chain → NoneEmpty chain counts path x → k < width chain
    → back_below chain counts path x k ≤ given_below chain counts path x k
unfolding back_below given_at NoneEmpty
back-given [] counts path x k are full h = omega arith
back-given (s ∷ below) counts path x k are full h =
    let j : ℕ = k / width below in
    let known : j < s.tribs = leaf-tributary s.tribs (width below) k h in
    let x' : ℕ = given s j (counts path j) x in
    let held : given_back s (counts path j) (x / s.len) ≤ x' = given_back-given s (counts path j) j x are.0 are.1 known (full j known).0 in
    let fewer = back_below-grows below counts (child path j) (given_back s (counts path j) (x / s.len)) x' (k % width below) are.2 held in
    let rest = back-given below counts (child path j) x' (k % width below) are.2 (full j known).1 (leaf-below s.tribs (width below) k h) in
    omega arith

-- ---- no more is given than is entered

-- whatever events there are
pub given-entered : (chain : List FrameShape) (counts : Counts) (path : List ℕ) (x k : ℕ) → AreFrames chain → given_below chain counts path x k ≤ entered_below chain counts path x k
unfolding given_at entered_at
given-entered [] counts path x k are = omega arith
given-entered (s ∷ []) counts path x k are =
    subst (λ j. given s j (counts path j) x ≤ entered_by (shape_numbers s) (counts path k) (begun s x)) (sym (div-one k)) (given-entered_by s k (counts path k) x are.0 are.1)
given-entered (s ∷ t ∷ below) counts path x k are =
    let j : ℕ = k / width (t ∷ below) in
    given-entered (t ∷ below) counts (child path j) (given s j (counts path j) x) (k % width (t ∷ below)) are.2

-- ---- prefixes of lists

-- the first bits of a place's bits, where these are a list's
front-list : (bits : List Bool) (input : ℕ → Bool) (n : ℕ) → ((i : ℕ) → input i ≡ slice_index_or bits i false) → n ≤ length bits → front input n ≡ take n bits
front-list bits input n same h =
    sym (fill_by_all input (take n bits) n false (length-take-le n bits h) (λ i lt. get_or-take n bits i false lt ∙ sym (same i)))

-- the same of a leaf that holds what it has given, in a chain where no store underflows
pub far-given : (chain : List FrameShape) (counts : Counts) (lists : ℕ → List Bool) (says : ℕ → Say) (x k : ℕ) → AreFrames chain → NoneEmpty chain counts [] x → k < width chain
    → given_below chain counts [] x k ≤ length (lists k) → far chain (front (line_with chain counts (content_of lists says)) x) k ≡ take (back_below chain counts [] x k) (lists k)
far-given chain counts lists says x k are full known long =
    let bits : ℕ → ℕ → Bool = (content_of lists says).bits in
    let back : ℕ = back_below chain counts [] x k in
    let first : 0 + k ≡ k = omega arith in
    far_front chain counts bits says [] 0 x k are known ∙ ap (λ i. front (bits i) back) first
    ∙ front-list (lists k) (bits k) back (λ i. refl) (omega (arith, back-given chain counts [] x k are full known))

-- A chain made so many frames of its top from lists that held what these frames enter, and met no event. Then of each front
-- of whole frames each leaf receives a prefix of its list.
pub far-prefix : (chain : List FrameShape) (counts : Counts) (bits : ℕ → ℕ → Bool) (lists : ℕ → List Bool) (says : ℕ → Say) (n m k : ℕ) → AreFrames chain
    → ((k i : ℕ) → bits k i ≡ slice_index_or (lists k) i false) → ArriveSingly chain counts [] (n * top_len chain)
    → events_below Plain chain counts (n * top_len chain) ≡ [] → entered_below chain counts [] (n * top_len chain) k ≤ length (lists k) → m ≤ n → k < width chain
    → far chain (front (chain_line Plain chain counts bits says [] 0) (m * top_len chain)) k ≡ take (back_below chain counts [] (m * top_len chain) k) (lists k)
far-prefix chain counts bits lists says n m k are same singly none long h known =
    let whole : ℕ = n * top_len chain in
    let back : ℕ = back_below chain counts [] (m * top_len chain) k in
    let first : 0 + k ≡ k = omega arith in
    let fewer : back ≤ back_below chain counts [] whole k = back_below-grows chain counts [] (m * top_len chain) whole k are (mul-le-mul_right (top_len chain) h) in
    let full : NoneEmpty chain counts [] whole = none-empty chain counts [] whole are singly (λ y lt. events_below-each chain counts whole y none lt) in
    let held : back_below chain counts [] whole k ≤ given_below chain counts [] whole k = back-given chain counts [] whole k are full known in
    far_front chain counts bits says [] 0 (m * top_len chain) k are known
    ∙ ap (λ i. front (bits i) back) first
    ∙ front-list (lists k) (bits k) back (same k) (omega (arith, given-entered chain counts [] whole k are))
