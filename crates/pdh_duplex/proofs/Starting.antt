-- What an end has before its first frame.
use Rattle.std.proofs.Common.{◌≡◌, ℕ, zero, suc, ◌+◌, ◌*◌, ◌/◌, ◌%◌, ◌<◌, Bool, false, eqb, List, [], ◌∷◌, length, map, drop, Some, refl, ap, sym, ◌∙◌, inl, inr, arith, slice_get}
use Rattle.std.specs.Prelude.{is_some}
use Rattle.std.specs.List.{range_with_len}
use Rattle.std.proofs.lemmas.Bool.{cases_Bool, lt-ltb}
use Rattle.std.proofs.lemmas.List.FromFn.{length-map-range_with_len}
use Rattle.std.proofs.lemmas.Nat.{div-mul-add, mod-mul-add}
use Rattle.pdh_edge.specs.MemLists.{inputs_of, length_of}
use Rattle.pdh_edge.specs.Ports.{Inputs}
use Rattle.pdh_shape.specs.Frame.{FrameShape, IsFrame}
use Rattle.pdh_shape.specs.Tributary.{reads_below}
use Rattle.pdh_line.specs.Nodes.{child, Counts, given_at}
use Rattle.pdh_line.specs.Sending.{given}
use Rattle.pdh_line.proofs.SendingLaws.{given-stores, given-locked}
use Rattle.pdh_events.specs.Duties.{last_frame}
use Rattle.pdh_nesting.specs.Chains.{width, top_len, AreFrames}
use Rattle.pdh_nesting.specs.Sending.{given_below}
use Rattle.pdh_rx.proofs.NodeSteps.{track_none}
use Rattle.pdh_chain.specs.Chains.{shapes_of, leaves_of}
use Rattle.pdh_chain.proofs.ChainLaws.{are_frames}
use Rattle.pdh_patterns.specs.Leaves.{made_counts, input_of}
use Rattle.pdh_duplex.specs.Session.{Setting}
use Rattle.pdh_duplex.specs.Sending.{taken_of, AreLeft}
use Rattle.pdh_watch.specs.declared.watch.Watch as watch
use Rattle.pdh_events.specs.Chain.{chain_events}
use Rattle.pdh_rx.specs.declared.rx.Rx as rx
use Rattle.pdh_rx.specs.Meaning.{Meaning}
use Rattle.pdh_rx.specs.Node.{frames_counted}
use Rattle.pdh_line.specs.Paths.{top}
use Rattle.pdh_chain.specs.Demuxes.{top_delivered}
use Rattle.pdh_chain.specs.Trees.{receiver_of}
use Rattle.pdh_chain.proofs.Noted.{notes_are}
use Rattle.pdh_duplex.specs.Top.{counted, is_aligned}
use Rattle.pdh_duplex.specs.Tallies.{tally_none}
use Rattle.pdh_duplex.specs.Hearing.{nothing_heard}
use Rattle.pdh_duplex.specs.Heard.{HasHeard}
use Rattle.pdh_duplex.specs.declared.incoming.Incoming.{Incoming}
use Rattle.pdh_duplex.specs.declared.tally.Tally.{Tally}

-- ---- before the first bit nothing is given

given_zero : (s : FrameShape) (j : ℕ) (counts : ℕ → ℕ) → IsFrame s → given s j counts 0 ≡ 0
given_zero s j counts frame = elim (cases_Bool (eqb s.copies 0)) [
  | inl locked ↦
      let q : 0 / s.len ≡ 0 = omega (arith, div-mul-add 0 s.len 0 frame.some_slots) in
      let r : 0 % s.len ≡ 0 = omega (arith, mod-mul-add 0 s.len 0 frame.some_slots) in
      given-locked s j counts 0 locked ∙ ap (λ n. n * s.low + reads_below s j false (0 % s.len)) q ∙ ap (λ t. 0 * s.low + reads_below s j false t) r ∙ omega arith
  | inr stores ↦ given-stores s j counts 0 stores
]

none_given : (shapes : List FrameShape) (counts : Counts) (steps : List ℕ) (k : ℕ) → AreFrames shapes → given_below shapes counts steps 0 k ≡ 0
unfolding given_at
none_given [] counts steps k are = refl
none_given (s ∷ below) counts steps k are =
    let j : ℕ = k / width below in
    ap (λ y. given_below below counts (child steps j) y (k % width below)) (given_zero s j (counts steps j) are.0) ∙ none_given below counts (child steps j) (k % width below) are.2

none_taken : (z : Setting) (k : ℕ) → taken_of z 0 k ≡ 0
none_taken z k =
    let none : 0 * top_len (shapes_of z.chain) ≡ 0 = omega arith in
    ap (λ x. given_below (shapes_of z.chain) (made_counts z.chain z.frames) [] x k) none ∙ none_given (shapes_of z.chain) (made_counts z.chain z.frames) [] k (are_frames z.chain)

-- ---- the leaves' lists

list_at : (f : ℕ → List Bool) (a n k : ℕ) → k < n → slice_get (map f (range_with_len a n)) k ≡ Some (f (a + k))
list_at f a zero k h = absurd (omega arith)
list_at f a (suc n) zero h = ap (λ i. Some (f i)) (let e : a ≡ a + 0 = omega arith in e)
list_at f a (suc n) (suc k) h = list_at f (a + 1) n k (omega arith) ∙ ap (λ i. Some (f i)) (let e : a + 1 + k ≡ a + suc k = omega arith in e)

-- each has its whole pattern
pub first_left : (z : Setting) (inputs : Inputs) → inputs ≡ inputs_of (map (input_of z.chain z.seed z.frames) (range_with_len 0 (leaves_of z.chain))) → AreLeft z 0 inputs
first_left z inputs opened =
    let input : ℕ → List Bool = input_of z.chain z.seed z.frames in
    let told : (k : ℕ) → k < width (shapes_of z.chain) → inputs.told k ≡ Some (input k) =
    λ k known. ap (λ (i : Inputs). i.told k) opened ∙ list_at input 0 (leaves_of z.chain) k known ∙ ap (λ i. Some (input i)) (let e : 0 + k ≡ k = omega arith in e) in
    record {
      holds = λ k known. ap (λ (i : Inputs). i.holds k) opened ∙ lt-ltb k (length (map input (range_with_len 0 (leaves_of z.chain)))) (omega (arith, known, length-map-range_with_len input 0 (leaves_of z.chain)));
      told = λ k known. told k known ∙ ap (λ n. Some (drop n (input k))) (sym (none_taken z k));
      left = λ k known.
          let left : inputs.left k ≡ length (input k) = ap (λ (i : Inputs). i.left k) opened ∙ ap length_of (sym (ap (λ (i : Inputs). i.told k) opened) ∙ told k known) in
          omega (arith, none_taken z k, left);
    }

-- ---- the receiver

-- before the first bit no alignment holds
pub never_aligned : (shapes : List FrameShape) → AreFrames shapes → is_aligned shapes [] ≡ false
never_aligned [] are = refl
never_aligned (s ∷ below) are = ap (λ pieces. is_some (last_frame pieces)) (track_none s are.0)

-- how many frames a receiver tells that it delivered
delivered_of : (shapes : List FrameShape) (line : List Bool) → (receiver_of shapes top 0).delivered line ≡ counted (top_delivered shapes line)
unfolding receiver_of frames_counted
delivered_of [] line = refl
delivered_of (s ∷ below) line = refl

-- a receiver that has got no bit, and a watch that saw no event
pub heard_nothing : {R W : Type 0} (receiver : rx.Ghosts R) (watches : watch.Ghosts W) (shapes : List FrameShape) (first : W) (i : Incoming R W) → AreFrames shapes → receiver.meaning i.receiver ≡ receiver_of shapes top 0 → receiver.stands i.receiver []
    → watches.saw first [] i.watch.watch → i.watch.tally ≡ tally_none → i.errors ≡ 0 → HasHeard receiver watches shapes nothing_heard first i
unfolding chain_events
heard_nothing receiver watches shapes first i are means stands saw none errors = record {
  notes_are = λ line bit. ap (λ (m : Meaning). m.notes line bit) means ∙ notes_are shapes top 0 are line bit;
  delivered_is = λ line. ap (λ (m : Meaning). m.delivered line) means ∙ delivered_of shapes line;
  stands = stands;
  saw = saw;
  aligned_is = ap (λ (t : Tally). t.aligned) none ∙ sym (never_aligned shapes are);
  in_error_is = ap (λ (t : Tally). t.in_error) none;
  alarms_are = ap (λ (t : Tally). t.alarms) none;
  febe_are = ap (λ (t : Tally). t.febe) none;
  errors_are = errors;
}
