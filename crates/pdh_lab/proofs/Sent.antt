-- What making the line of a drill never meets, and the line that is made.
use Rattle.std.proofs.Common.{◌≡◌, ℕ, zero, suc, ◌*◌, ◌<◌, ◌≤◌, List, [], ◌∷◌, ◌++◌, Bool, false, length, get_or, refl, ap, sym, ◌∙◌, subst, arith, Option, Some, None}
use Rattle.std.specs.Prelude.{IsTrue, map, nat_lt, slice_get, slice_index_or}
use Rattle.pdh_bits.specs.BitOut.{BoundedBits}
use Rattle.std.proofs.lemmas.Bool.{ltb-true}
use Rattle.std.proofs.lemmas.List.{get_or_append_left}
use Rattle.pdh_shape.specs.Frame.{FrameShape}
use Rattle.pdh_shape.specs.declared.place.Path.{Path}
use Rattle.pdh_shape.specs.declared.place.Place.{Place}
use Rattle.pdh_line.specs.Sending.Mode.{Plain}
use Rattle.pdh_line.specs.Events.{Event}
use Rattle.pdh_line.proofs.SentFrames.{length-front}
use Rattle.pdh_edge.specs.Files.{Rose}
use Rattle.pdh_edge.specs.Ports.{Inputs, Outputs, before, after}
use Rattle.pdh_edge.specs.MemLists.{inputs_of, outputs_of, items_of, length_of, bits_held}
use Rattle.pdh_nesting.specs.Chains.{width, top_len}
use Rattle.pdh_nesting.specs.Events.{first_event}
use Rattle.pdh_nesting.proofs.Given.{given-entered}
use Rattle.pdh_clock.specs.Row.{Row}
use Rattle.pdh_clock.specs.Contents.{Contents, counts, frame_count}
use Rattle.pdh_chain.specs.Saying.{says_of}
use Rattle.pdh_chain.specs.declared.chain.Chain.{Chain}
use Rattle.pdh_chain.specs.Chains.{shapes_of, leaves_of}
use Rattle.pdh_chain.specs.Muxes.{StopsForFrame, StopsAtEnd, StopsAtEvent, PutsPrefix, frames_of_line}
use Rattle.pdh_chain.proofs.ChainLaws.{are_frames}
use Rattle.pdh_chain.proofs.Scheduled.{none_lacks_below}
use Rattle.pdh_chain.proofs.ShortLists.{mux_short}
use Rattle.pdh_patterns.specs.Pattern.{pattern_bit}
use Rattle.pdh_lab.specs.Drill.{line_of}
use Rattle.pdh_patterns.specs.Leaves.{entered_of, input_of, IsClockOf}
use Rattle.pdh_lab.specs.Steps.{AreInputs, CanSend, IsSent}
use Rattle.pdh_patterns.proofs.Entered.{no_event, entered_there, all_scheduled}

-- ---- what is never met

pub has_frames : (chain : Chain) (frames : ℕ) (clock : Contents) (node : Path) → IsClockOf chain frames clock → StopsForFrame (shapes_of chain) (counts clock.rows) (frame_count clock.rows) frames node → ⊥
has_frames chain frames clock node is stops =
    none_lacks_below (shapes_of chain) (counts clock.rows) (frame_count clock.rows) (frames * top_len (shapes_of chain)) stops.steps (all_scheduled chain frames clock is) stops.lacks

-- no store overflows or underflows
pub has_no_event : (chain : Chain) (frames : ℕ) (clock : Contents) (over : Bool) (place : Place) (inputs inputs_now : Inputs) (outputs outputs_now : Outputs) → IsClockOf chain frames clock
    → StopsAtEvent (shapes_of chain) (counts clock.rows) (says_of None) (frame_count clock.rows) frames over place inputs inputs_now outputs outputs_now → ⊥
has_no_event chain frames clock over place inputs inputs_now outputs outputs_now is stops =
    let none : first_event (shapes_of chain) (counts clock.rows) frames ≡ None = ap (λ c. first_event (shapes_of chain) c frames) is.counts_are ∙ no_event chain frames in
    let wrong : ◌≡◌ {A = Option Event} None (Some stops.event) = sym none ∙ stops.first in
    cc

-- where each leaf's list has what must enter, none is used up
pub has_bits : (chain : Chain) (frames leaf : ℕ) (clock : Contents) (inputs inputs_now : Inputs) → IsClockOf chain frames clock → CanSend chain frames inputs
    → StopsAtEnd (shapes_of chain) (counts clock.rows) frames leaf inputs inputs_now → ⊥
has_bits chain frames leaf clock inputs inputs_now is can stops =
    let low : leaf < leaves_of chain = stops.known in
    let most = given-entered (shapes_of chain) (counts clock.rows) [] (frames * top_len (shapes_of chain)) leaf (are_frames chain) in
    omega (arith, stops.short, most, entered_there chain frames clock is leaf, can.long leaf low)

-- a count that stands at 0 still didn't rise
pub none_rose : (x y : ℕ) → x ≡ 0 → y ≡ x → Rose x y → ⊥
none_rose x y none same rose = omega arith

-- the one list of a port as it was opened
one_list : (k : ℕ) → IsTrue (nat_lt k 1) → k ≡ 0
one_list zero h = refl
one_list (suc k) h = absurd (let less : suc k < 1 = ltb-true _ _ h in omega arith)

-- it has room for what is put
pub in_room : (chain : Chain) (rows : List Row) (frames room k : ℕ) (inputs inputs_now : Inputs) (outputs outputs_now : Outputs) → outputs ≡ outputs_of ([] ∷ []) → outputs_now.holds ≡ outputs.holds → frames * top_len (shapes_of chain) < room
    → PutsPrefix Plain (shapes_of chain) (counts rows) (says_of None) (frame_count rows) frames inputs inputs_now outputs outputs_now → IsTrue (outputs_now.holds k) → (k ≡ 0) × (bits_held outputs_now k < room)
in_room chain rows frames room k inputs inputs_now outputs outputs_now opened holds enough put held =
    let is : IsTrue (nat_lt k 1) = subst IsTrue (ap (λ h. h k) holds ∙ ap (λ (o : Outputs). o.holds k) opened) held in
    let first : k ≡ 0 = one_list k is in
    let empty : bits_held outputs 0 ≡ 0 = ap (λ (o : Outputs). bits_held o 0) opened in
    let most = mux_short Plain (shapes_of chain) (counts rows) (says_of None) (frame_count rows) frames inputs inputs_now outputs outputs_now put 0 in
    (first, subst (λ k. bits_held outputs_now k < room) (sym first) (omega (arith, most, empty, enough)))

-- ---- the leaves' lists

-- a port as it was opened gives a leaf's list
list_told : (leaves : List BoundedBits) (k : ℕ) → k < length leaves → (bits : List Bool) → ((d : BoundedBits) → (slice_index_or leaves k d).bits ≡ bits) → slice_get (map items_of leaves) k ≡ Some bits
list_told [] k h bits is = absurd (omega arith)
list_told (leaf ∷ leaves) zero h bits is = ap Some (is leaf)
list_told (leaf ∷ leaves) (suc k) h bits is = list_told leaves k (omega arith) bits is

input_told : (chain : Chain) (seed frames : ℕ) (leaves : List BoundedBits) (k : ℕ) → AreInputs chain seed frames (leaves_of chain) leaves → k < leaves_of chain → slice_get (map items_of leaves) k ≡ Some (input_of chain seed frames k)
input_told chain seed frames leaves k are low = list_told leaves k (omega (arith, are.count)) (input_of chain seed frames k) (λ d. are.each k d low)

-- it has as many bits as enter
pub list_long : (chain : Chain) (seed frames : ℕ) (leaves : List BoundedBits) (k : ℕ) (inputs : Inputs) → AreInputs chain seed frames (leaves_of chain) leaves → inputs ≡ inputs_of (map items_of leaves) → k < leaves_of chain
    → entered_of chain frames k ≤ inputs.left k
list_long chain seed frames leaves k inputs are opened low =
    let left : inputs.left k ≡ length (input_of chain seed frames k) = ap (λ (i : Inputs). i.left k) opened ∙ ap length_of (input_told chain seed frames leaves k are low) in
    omega (arith, left, length-front (pattern_bit seed k) (entered_of chain frames k))

-- ---- the line

-- a list that gave bits began with them
begins : (rest : Option (List Bool)) (given bits : List Bool) → Some bits ≡ before given rest → (i : ℕ) → i < length given → slice_index_or given i false ≡ slice_index_or bits i false
begins None given bits told i h = absurd (cc)
begins (Some rest) given bits told i h =
    let whole : bits ≡ given ++ rest = cc in
    sym (ap (λ (l : List Bool). get_or l i false) whole ∙ get_or_append_left given rest false i h)

-- what was put is the line of the leaves' patterns
pub line_sent : (chain : Chain) (seed frames : ℕ) (clock : Contents) (leaves : List BoundedBits) (line : List Bool) (inputs inputs_now : Inputs) (outputs outputs_now : Outputs) → IsClockOf chain frames clock → AreInputs chain seed frames (leaves_of chain) leaves
    → inputs ≡ inputs_of (map items_of leaves) → outputs ≡ outputs_of ([] ∷ []) → IsSent chain frames clock inputs inputs_now outputs outputs_now → outputs_now.told 0 ≡ Some line → line ≡ line_of chain seed frames
unfolding line_of
line_sent chain seed frames clock leaves line inputs inputs_now outputs outputs_now is are inputs_are outputs_are sent now =
    let shapes : List FrameShape = shapes_of chain in
    let lists : ℕ → List Bool = input_of chain seed frames in
    let empty : outputs.told 0 ≡ Some [] = ap (λ (o : Outputs). o.told 0) outputs_are in
    let put : Some line ≡ Some (frames_of_line Plain shapes (counts clock.rows) (says_of None) lists frames) =
    sym now ∙ sent.line.puts lists agrees 0 ∙ ap (after (frames_of_line Plain shapes (counts clock.rows) (says_of None) lists frames)) empty in
    let made : line ≡ frames_of_line Plain shapes (counts clock.rows) (says_of None) lists frames = cc in
    made ∙ ap (λ c. frames_of_line Plain shapes c (says_of None) lists frames) is.counts_are
  where
    agrees : (k i : ℕ) → k < width (shapes_of chain) → i < length (sent.line.given k) → slice_index_or (sent.line.given k) i false ≡ slice_index_or (input_of chain seed frames k) i false
    agrees k i low h =
        let told : inputs.told k ≡ Some (input_of chain seed frames k) = ap (λ (o : Inputs). o.told k) inputs_are ∙ input_told chain seed frames leaves k are low in
        begins (inputs_now.told k) (sent.line.given k) (input_of chain seed frames k) (sym told ∙ sent.line.takes.bits k) i h

-- its length
pub length-line : (chain : Chain) (seed frames : ℕ) → length (line_of chain seed frames) ≡ frames * top_len (shapes_of chain)
unfolding line_of
length-line chain seed frames = length-front _ (frames * top_len (shapes_of chain))
