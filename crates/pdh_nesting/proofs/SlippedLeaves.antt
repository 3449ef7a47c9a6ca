-- What a leaf gets of a chain whose stores slip, where no node above it does: its own bits with the edits of its own store's slips.
use Rattle.std.proofs.Common.{◌≡◌, ℕ, zero, suc, ◌+◌, ◌-◌, ◌*◌, ◌/◌, ◌%◌, ◌<◌, ◌≤◌, Bool, true, false, ◌&&◌, cond, eqb, List, [], ◌∷◌, ◌++◌, length, map, take, refl, sym, ap, ◌∙◌, subst, inl, inr, arith, eq-eqb, append_assoc}
use Rattle.std.specs.List.{All}
use Rattle.std.proofs.lemmas.Bool.{cases_Bool, cases_lt, lt-ltb, le-ltb, ne_eqb}
use Rattle.std.proofs.lemmas.List.{get_or-take, length-take-le}
use Rattle.std.proofs.lemmas.List.Elements.{All-head, All-tail}
use Rattle.std.proofs.lemmas.List.FromFn.{fill_by_all}
use Rattle.std.proofs.lemmas.Nat.{div-add-mod', mod_below, le-div, div-mul-add}
use Rattle.std.proofs.Math.Nat.{mul-le-mul_right, div-mul-le_self}
use Rattle.pdh_shape.specs.declared.role.Service.{Service as Say}
use Rattle.pdh_shape.specs.Frame.{FrameShape, IsFrame, idle}
use Rattle.pdh_shape.specs.Tributary.{HasTributaries}
use Rattle.pdh_line.specs.Edits.{Edit, edited, edited_list}
use Rattle.pdh_line.specs.Sending.Mode.{Slipping}
use Rattle.pdh_line.specs.Sending.{HasStores, Slip, Source, start_of, edits_to, came_before, line_bit, given, front, frames_found, given_back}
use Rattle.pdh_line.specs.Receiving.{received}
use Rattle.pdh_line.specs.Events.{Event, overflow_at, underflow_at}
use Rattle.pdh_line.specs.Events.Kind.{Overflow}
use Rattle.pdh_line.specs.Nodes.{child, leaf_node, Counts, given_at}
use Rattle.pdh_line.proofs.Ranges.{map-range_same_on}
use Rattle.pdh_line.proofs.SendingLaws.{given-stores, given-locked, sent-locked}
use Rattle.pdh_line.proofs.SentFrames.{received-carried}
use Rattle.pdh_line.proofs.LeafNumbers.{leaf-tributary, leaf-below, leaf-number, div-one}
use Rattle.pdh_nesting.specs.Chains.{numbers_of, width, AreFrames}
use Rattle.pdh_nesting.specs.Sending.{chain_line, line_in, content_of, given_below, ArriveSingly}
use Rattle.pdh_nesting.specs.Events.{events_in, events_below}
use Rattle.pdh_nesting.specs.Slips.{leaf_edits, slipped, begins_path, is_above, NoneAbove, slipped_back}
use Rattle.pdh_nesting.specs.Receiving.{far}
use Rattle.pdh_nesting.proofs.Orders.{Each}
use Rattle.pdh_nesting.proofs.Nodes.{given_back-grows, given_back-given}
use Rattle.pdh_nesting.proofs.QuietSlips.{plain_start, IsUnslipped, start-plain, edits-unslipped, unslipped-locked, quiet-unslipped, slips-events}
use Rattle.pdh_nesting.proofs.CarriedSlips.{sent-zero, sent-next, settled-slots, is_carried}
use Rattle.pdh_nesting.proofs.EditedLists.{Fits, edited_len, edited-list}
use Rattle.pdh_nesting.proofs.StoredSlips.{holds-reads}
use Rattle.pdh_nesting.proofs.SlipParts.{slot_each, taken_each, run_each}

-- ---- events above a node

-- an event isn't that of this node or of one on the way to it
abbrev pub NotAbove : List ℕ → Event → Type 0
NotAbove node event = is_above event node ≡ false

begins-own : (path rest : List ℕ) → begins_path path (path ++ rest) ≡ true
begins-own [] rest = refl
begins-own (step ∷ path) rest = ap (λ b. b && begins_path path (path ++ rest)) (eq-eqb step step refl) ∙ begins-own path rest

-- a tributary that is a node on the way to this one has none of them
none_above : (f : Slip → Event) (node : List ℕ) (slips : List Slip) → ((slip : Slip) → is_above (f slip) node ≡ true) → Each (NotAbove node) (map f slips) → map f slips ≡ []
none_above f node [] above each = refl
none_above f node (slip ∷ slips) above each = absurd (let wrong : true ≡ false = sym (above slip) ∙ each.0 in cc)

all-each : {X : Type 0} (P : X → Type 0) (xs : List X) → All P xs → Each P xs
all-each P [] all = tt
all-each P (x ∷ xs) all = (All-head P x xs all, all-each P xs (All-tail P x xs all))

-- ---- a tributary without slips

module _ (s : FrameShape) (below : List FrameShape) (counts : Counts) (path : List ℕ) (j : ℕ) (node rest : List ℕ) (on_way : node ≡ path ++ suc j ∷ rest) where
  abbrev IsFreeTo : ℕ → Type 0
  IsFreeTo x = (y : ℕ) → y < x → Each (NotAbove node) (events_in Slipping (s ∷ below) counts path y)

  own_above : is_above (record { kind = Overflow; path = path; trib = j; frame = 0; slot = 0 }) node ≡ true
  own_above =
      let whole : node ≡ child path j ++ rest = on_way ∙ sym (append_assoc path (suc j ∷ []) rest) in
      ap (begins_path (child path j)) whole ∙ begins-own (child path j) rest

  slot_free : (n t x : ℕ) → HasStores s → j < s.tribs → IsFreeTo x → t < s.len → n * s.len + t < x
      → (overflow_at Slipping s path j (counts path j) n t ≡ []) × (underflow_at Slipping s path j (counts path j) n t ≡ [])
  slot_free n t x stores known free inside h =
      let each = slot_each (NotAbove node) Slipping s below counts path stores j n t inside (free (n * s.len + t) h) known in
      (none_above _ node _ (λ slip. own_above) each.0, none_above _ node _ (λ slip. own_above) each.1)

  pub unslipped-free : (x n t : ℕ) → j < s.tribs → IsFreeTo x → n * s.len + t ≤ x → IsUnslipped s j (counts path j) n t
  unslipped-free x n t known free upto =
      elim (cases_Bool (eqb s.copies 0)) [
        | inl locked ↦ unslipped-locked s j (counts path j) locked n t
        | inr stores ↦ record {
          none = λ m u l h. slips-events s path j (counts path j) m (suc u) (λ v h'. slot_free m v x stores known free (omega arith) (omega arith));
        }
      ]

-- ---- counts

frames-few : (n : ℕ) → frames_found n ≤ n
frames-few n = elim (cases_lt n 3) [ inl few ↦ rw (lt-ltb n 3 few) (omega arith) | inr enough ↦ rw (le-ltb n 3 enough) (omega arith) ]

start-grows : (s : FrameShape) (j : ℕ) (counts : ℕ → ℕ) (m k : ℕ) → (start_of s j counts m).sent ≤ (start_of s j counts (m + k)).sent
start-grows s j counts m zero = (let same : m + 0 ≡ m = omega arith in omega (arith, ap (λ n. (start_of s j counts n).sent) same))
start-grows s j counts m (suc k) =
    let next : m + suc k ≡ suc (m + k) = omega arith in
    omega (arith, start-grows s j counts m k, sent-next s j counts (m + k), ap (λ n. (start_of s j counts n).sent) next)

-- of a front of a line no more comes back than of a longer one
pub found-few : (s : FrameShape) (j : ℕ) (counts : ℕ → ℕ) (x y : ℕ) → IsFrame s → x ≤ y → (start_of s j counts (frames_found (x / s.len))).sent ≤ (start_of s j counts (y / s.len)).sent
found-few s j counts x y frame h =
    let m : ℕ = frames_found (x / s.len) in
    let n : ℕ = y / s.len in
    let frames : x / s.len ≤ n = le-div (x / s.len) y s.len frame.some_slots (omega (arith, div-mul-le_self x s.len, h)) in
    let few : m ≤ n = omega (arith, frames-few (x / s.len), frames) in
    let e : m + (n - m) ≡ n = omega (arith, few) in
    omega (arith, start-grows s j counts m (n - m), ap (λ n. (start_of s j counts n).sent) e)

-- ---- down a step

-- what a node on the way to a leaf does to the node below it, its tributary j: of so many bits it gives back the first ones, and no
-- more than it has taken
record GoesDown (s : FrameShape) (below : List FrameShape) (counts : Counts) (path : List ℕ) (j x y : ℕ) (node : List ℕ) : Type 0 where
  few : given_back s (counts path j) (x / s.len) ≤ given s j (counts path j) y
  singly : ArriveSingly below counts (child path j) (given s j (counts path j) y)
  free : (i : ℕ) → i < given s j (counts path j) y → Each (NotAbove node) (events_in Slipping below counts (child path j) i)
  gets : (bits : ℕ → ℕ → Bool) (says : ℕ → Say) (first : ℕ)
      → received s j (front (chain_line Slipping (s ∷ below) counts bits says path first) x)
      ≡ front (chain_line Slipping below counts bits (λ n. idle) (child path j) (first + j * width below)) (given_back s (counts path j) (x / s.len))

goes_down : (s : FrameShape) (below : List FrameShape) (counts : Counts) (path : List ℕ) (j x y : ℕ) (node rest : List ℕ) → AreFrames (s ∷ below) → j < s.tribs → x ≤ y
    → node ≡ path ++ suc j ∷ rest → ArriveSingly (s ∷ below) counts path y → ((i : ℕ) → i < y → Each (NotAbove node) (events_in Slipping (s ∷ below) counts path i))
    → GoesDown s below counts path j x y node
unfolding ArriveSingly chain_line
goes_down s below counts path j x y node rest are known h on_way singly free =
    let whole : y / s.len * s.len + y % s.len ≡ y = div-add-mod' y s.len in
    let front_whole : x / s.len * s.len + x % s.len ≡ x = div-add-mod' x s.len in
    let quiet : IsUnslipped s j (counts path j) (y / s.len) (y % s.len) = unslipped-free s below counts path j node rest on_way y (y / s.len) (y % s.len) known free (omega (arith, whole)) in
    let found : IsUnslipped s j (counts path j) (x / s.len) 0 = unslipped-free s below counts path j node rest on_way y (x / s.len) 0 known free (omega (arith, front_whole, h)) in
    let most = given_back-given s (counts path j) j y are.0 are.1 known
    (λ stores m u l h'. (quiet-unslipped s j (counts path j) stores are.0 (y / s.len) (y % s.len) quiet m u l (omega (arith, whole, h'))).1) in
    record {
      few = omega (arith, most, given_back-grows s (counts path j) x y are.0 h);
      singly = (singly j known).1;
      free = λ i lt. taken_each (NotAbove node) Slipping s below counts path y j i are known (singly j known).0 free lt;
      gets = λ bits says first. gets bits says first found;
    }
  where
    gets : (bits : ℕ → ℕ → Bool) (says : ℕ → Say) (first : ℕ) → IsUnslipped s j (counts path j) (x / s.len) 0
        → received s j (front (chain_line Slipping (s ∷ below) counts bits says path first) x)
        ≡ front (chain_line Slipping below counts bits (λ n. idle) (child path j) (first + j * width below)) (given_back s (counts path j) (x / s.len))
    gets bits says first found =
        let inputs : ℕ → ℕ → Bool = λ j. chain_line Slipping below counts bits (λ n. idle) (child path j) (first + j * width below) in
        let source : Source = record { mode = Slipping; counts = counts path; inputs = inputs; says = says } in
        let n : ℕ = x / s.len in
        let none : edits_to s j (counts path j) n 0 ≡ [] = edits-unslipped s j (counts path j) are.0 n 0 (omega arith) found in
        let earlier : IsUnslipped s j (counts path j) (frames_found n) 0 =
        record { none = λ m u l h'. found.none m u l (omega (arith, h', mul-le-mul_right s.len (frames-few n))) } in
        let plain : start_of s j (counts path j) (frames_found n) ≡ plain_start s (counts path j) (frames_found n) = start-plain s j (counts path j) are.0 (frames_found n) 0 earlier in
        received-carried s source j x n are.0 are.1 known (is_carried s j (counts path j) are.1 known) (omega arith)
        ∙ ap (λ edits. front (edited edits (inputs j)) (start_of s j (counts path j) (frames_found n)).sent) none
        ∙ ap (λ at. front (inputs j) at.sent) plain

-- ---- a leaf

-- the first n bits of two lines that agree on these
front-same : (f g : ℕ → Bool) (n : ℕ) → ((i : ℕ) → i < n → f i ≡ g i) → front f n ≡ front g n
front-same f g n same = map-range_same_on f g 0 n (λ i l h. same i (omega arith))

-- Of the first x bits of a node's line such a leaf gets the first of its bits, with the edits of the first y bits.
pub far-slipped : (chain : List FrameShape) (counts : Counts) (bits : ℕ → ℕ → Bool) (says : ℕ → Say) (path : List ℕ) (first x y k : ℕ) (node : List ℕ) → AreFrames chain → k < width chain → x ≤ y
    → node ≡ path ++ leaf_node (numbers_of chain) k → ArriveSingly chain counts path y → ((i : ℕ) → i < y → Each (NotAbove node) (events_in Slipping chain counts path i))
    → far chain (front (chain_line Slipping chain counts bits says path first) x) k ≡ front (edited (leaf_edits chain counts path y k) (bits (first + k))) (slipped_back chain counts path x k)
unfolding far chain_line leaf_edits slipped_back
far-slipped [] counts bits says path first x y k node are known h on_way singly free =
    let e : first ≡ first + k = omega arith in
    ap (λ i. front (bits i) x) e
far-slipped (s ∷ []) counts bits says path first x y k node are known h on_way singly free =
    let inputs : ℕ → ℕ → Bool = λ j. bits (first + j * 1) in
    let source : Source = record { mode = Slipping; counts = counts path; inputs = inputs; says = says } in
    let own : k < s.tribs = omega (arith, known) in
    let n : ℕ = y / s.len in
    let back : ℕ = (start_of s k (counts path k) (frames_found (x / s.len))).sent in
    let frames : x / s.len ≤ n = le-div (x / s.len) y s.len are.0.some_slots (omega (arith, div-mul-le_self x s.len, h)) in
    let few : back ≤ (start_of s k (counts path k) n).sent = found-few s k (counts path k) x y are.0 h in
    let number : first + k * 1 ≡ first + k = omega arith in
    ap (λ j. received s j (front (line_bit s source) x)) (div-one k)
    ∙ received-carried s source k x n are.0 are.1 own (is_carried s k (counts path k) are.1 own) frames
    ∙ front-same _ _ back (λ i lt. sym (settled-slots s k (counts path k) (inputs k) n (y % s.len) i (omega (arith, lt, few))))
    ∙ ap (λ i. front (edited (edits_to s k (counts path k) n (y % s.len)) (bits i)) back) number
far-slipped (s ∷ next ∷ below) counts bits says path first x y k node are known h on_way singly free =
    let w : ℕ = width (next ∷ below) in
    let j : ℕ = k / w in
    let own : j < s.tribs = leaf-tributary s.tribs w k known in
    let down = goes_down s (next ∷ below) counts path j x y node (leaf_node (numbers_of (next ∷ below)) (k % w)) are own h on_way singly free in
    let back : ℕ = given_back s (counts path j) (x / s.len) in
    let y' : ℕ = given s j (counts path j) y in
    ap (λ line. far (next ∷ below) line (k % w)) (down.gets bits says first)
    ∙ far-slipped (next ∷ below) counts bits (λ n. idle) (child path j) (first + j * w) back y' (k % w) node are.2 (leaf-below s.tribs w k known) down.few
    (on_way ∙ sym (append_assoc path (suc j ∷ []) (leaf_node (numbers_of (next ∷ below)) (k % w)))) down.singly down.free
    ∙ ap (λ i. front (edited (leaf_edits (next ∷ below) counts (child path j) y' (k % w)) (bits i)) (slipped_back (next ∷ below) counts (child path j) back (k % w))) (leaf-number first w k)

-- ---- as a list

-- the leaf's edits fit a list of so many bits, and leave as many of it as come back
record FitsLeaf (chain : List FrameShape) (counts : Counts) (path : List ℕ) (x y k len : ℕ) : Type 0 where
  fits : Fits (leaf_edits chain counts path y k) len
  most : slipped_back chain counts path x k ≤ edited_len (leaf_edits chain counts path y k) len

-- a leaf of this node, with a store or without
own-fits : (s : FrameShape) (j : ℕ) (counts : ℕ → ℕ) (x y len : ℕ) → IsFrame s → HasTributaries s → j < s.tribs → x ≤ y → given s j counts y ≤ len
    → Fits (edits_to s j counts (y / s.len) (y % s.len)) len × ((start_of s j counts (frames_found (x / s.len))).sent ≤ edited_len (edits_to s j counts (y / s.len) (y % s.len)) len)
own-fits s j counts x y len frame has known h room =
    elim (cases_Bool (eqb s.copies 0)) [
      | inl locked ↦
          let quiet = unslipped-locked s j counts locked in
          let none = edits-unslipped s j counts frame n t (omega (arith, inside)) (quiet n t) in
          let plain = start-plain s j counts frame n 0 (quiet n 0) in
          unedited (edits_to s j counts n t) none
          (omega (arith, few, ap (λ at. at.sent) plain, sent-locked s counts n locked, given-locked s j counts y locked, room))
      | inr stores ↦ elim (cases_lt 0 y) [
        | inl some ↦
            let taken_is : given s j counts y ≡ came_before s counts n t = given-stores s j counts y stores ∙ ap (λ b. cond b 0 (came_before s counts n t)) (ne_eqb y 0 (λ e. absurd (omega (arith, e, some)))) in
            let holds = holds-reads s j counts frame has known stores n t len (omega (arith, taken_is, room)) in
            (holds.fits, omega (arith, few, holds.most))
        | inr none ↦
            let first : y ≡ 0 = omega arith in
            let whole : y / s.len * s.len + y % s.len ≡ y = div-add-mod' y s.len in
            let n_is : n ≡ 0 = ap (λ y. y / s.len) first ∙ div_zero in
            let quiet : IsUnslipped s j counts n t = record { none = λ m u l h'. absurd (omega (arith, h', whole, first)) } in
            unedited (edits_to s j counts n t) (edits-unslipped s j counts frame n t (omega (arith, inside)) quiet)
            (omega (arith, few, ap (λ n. (start_of s j counts n).sent) n_is, sent-zero s j counts))
      ]
    ]
  where
    n : ℕ
    n = y / s.len

    t : ℕ
    t = y % s.len

    inside : t < s.len
    inside = mod_below y s.len frame.some_slots

    few : (start_of s j counts (frames_found (x / s.len))).sent ≤ (start_of s j counts n).sent
    few = found-few s j counts x y frame h

    div_zero : 0 / s.len ≡ 0
    div_zero = (let e : 0 ≡ 0 * s.len + 0 = omega arith in ap (λ n. n / s.len) e ∙ div-mul-add 0 s.len 0 frame.some_slots)

    unedited : (edits : List Edit) → edits ≡ [] → (start_of s j counts (frames_found (x / s.len))).sent ≤ len
        → Fits edits len × ((start_of s j counts (frames_found (x / s.len))).sent ≤ edited_len edits len)
    unedited edits none upto = (subst (λ edits. Fits edits len) (sym none) tt, subst (λ edits. (start_of s j counts (frames_found (x / s.len))).sent ≤ edited_len edits len) (sym none) upto)

leaf-fits : (chain : List FrameShape) (counts : Counts) (path : List ℕ) (x y k len : ℕ) (node : List ℕ) → AreFrames chain → k < width chain → x ≤ y
    → node ≡ path ++ leaf_node (numbers_of chain) k → ArriveSingly chain counts path y → ((i : ℕ) → i < y → Each (NotAbove node) (events_in Slipping chain counts path i))
    → given_below chain counts path y k ≤ len → FitsLeaf chain counts path x y k len
unfolding leaf_edits slipped_back given_at
leaf-fits [] counts path x y k len node are known h on_way singly free room = record { fits = tt; most = omega (arith, h, room) }
leaf-fits (s ∷ []) counts path x y k len node are known h on_way singly free room =
    let held : given s k (counts path k) y ≤ len = subst (λ j. given s j (counts path j) y ≤ len) (div-one k) room in
    let own = own-fits s k (counts path k) x y len are.0 are.1 (omega (arith, known)) h held in
    record { fits = own.0; most = own.1 }
leaf-fits (s ∷ next ∷ below) counts path x y k len node are known h on_way singly free room =
    let w : ℕ = width (next ∷ below) in
    let j : ℕ = k / w in
    let own : j < s.tribs = leaf-tributary s.tribs w k known in
    let down = goes_down s (next ∷ below) counts path j x y node (leaf_node (numbers_of (next ∷ below)) (k % w)) are own h on_way singly free in
    let inner =
    leaf-fits (next ∷ below) counts (child path j) (given_back s (counts path j) (x / s.len)) (given s j (counts path j) y) (k % w) len node are.2 (leaf-below s.tribs w k known) down.few
    (on_way ∙ sym (append_assoc path (suc j ∷ []) (leaf_node (numbers_of (next ∷ below)) (k % w)))) down.singly down.free room in
    record { fits = inner.fits; most = inner.most }

-- the events of a run, where no node on the way to a leaf slips
pub free-below : (chain : List FrameShape) (counts : Counts) (y k : ℕ) → NoneAbove chain (events_below Slipping chain counts y) k
    → (i : ℕ) → i < y → Each (NotAbove (leaf_node (numbers_of chain) k)) (events_in Slipping chain counts [] i)
free-below chain counts y k none i h =
    let P : Event → Type 0 = NotAbove (leaf_node (numbers_of chain) k) in
    run_each P Slipping chain counts y i (all-each P (events_below Slipping chain counts y) none) h

-- So of the first x bits of the top's line such a leaf gets the first bits of its list, with the edits of the first y bits, where its
-- list holds what it has given by then.
pub far-edited : (chain : List FrameShape) (counts : Counts) (lists : ℕ → List Bool) (says : ℕ → Say) (x y k : ℕ) → AreFrames chain → k < width chain → x ≤ y
    → ArriveSingly chain counts [] y → NoneAbove chain (events_below Slipping chain counts y) k → given_below chain counts [] y k ≤ length (lists k)
    → far chain (front (line_in Slipping chain counts (content_of lists says)) x) k ≡ take (slipped_back chain counts [] x k) (slipped chain counts y k (lists k))
far-edited chain counts lists says x y k are known h singly none room =
    let bits : ℕ → ℕ → Bool = (content_of lists says).bits in
    let edits : List Edit = leaf_edits chain counts [] y k in
    let back : ℕ = slipped_back chain counts [] x k in
    let free = free-below chain counts y k none in
    let own = leaf-fits chain counts [] x y k (length (lists k)) (leaf_node (numbers_of chain) k) are known h refl singly free room in
    let is = edited-list edits (lists k) own.fits in
    let first : 0 + k ≡ k = omega arith in
    let long : back ≤ length (edited_list edits (lists k)) = omega (arith, own.most, is.len) in
    far-slipped chain counts bits says [] 0 x y k (leaf_node (numbers_of chain) k) are known h refl singly free
    ∙ ap (λ i. front (edited edits (bits i)) back) first
    ∙ sym (fill_by_all (edited edits (bits k)) (take back (edited_list edits (lists k))) back false (length-take-le back (edited_list edits (lists k)) long)
    (λ i lt. get_or-take back (edited_list edits (lists k)) i false lt ∙ is.each i))
