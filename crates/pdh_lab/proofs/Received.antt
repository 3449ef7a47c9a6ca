-- What taking the line of a drill apart gives.
use Rattle.std.proofs.Common.{◌≡◌, ℕ, zero, suc, ◌/◌, ◌<◌, nat_lt, List, [], ◌∷◌, ◌++◌, Bool, true, Option, None, Some, length, take, replicate, refl, ap, sym, ◌∙◌, subst, arith}
use Rattle.std.specs.Prelude.{⊤, IsTrue, slice_get}
use Rattle.std.proofs.Math.Seq.{take-length, take-append_seam}
use Rattle.std.proofs.lemmas.Bool.{lt-ltb, ltb-true}
use Rattle.std.proofs.lemmas.List.{length-replicate}
use Rattle.pdh_edge.specs.Ports.{Inputs, Outputs, before, after}
use Rattle.pdh_edge.specs.MemLists.{inputs_of, outputs_of, length_of, bits_held}
use Rattle.pdh_nesting.specs.Chains.{width}
use Rattle.pdh_nesting.specs.Receiving.{far}
use Rattle.pdh_watch.specs.declared.event.Event.{Event}
use Rattle.pdh_chain.specs.declared.chain.Chain.{Chain}
use Rattle.pdh_chain.specs.Chains.{shapes_of, leaves_of}
use Rattle.pdh_chain.specs.Demuxes.{Demuxes, DemuxesPart, received_of}
use Rattle.pdh_chain.proofs.ChainLaws.{are_frames}
use Rattle.pdh_chain.proofs.ShortLists.{demux_short}
use Rattle.pdh_lab.specs.Steps.{HaveReceived}

-- ---- empty lists

-- so many are held, from 0 on
pub lists_hold : (n k : ℕ) {outputs : Outputs} → outputs ≡ outputs_of (replicate n []) → k < n → IsTrue (outputs.holds k)
lists_hold n k is low = ap (λ (o : Outputs). o.holds k) is ∙ ap (nat_lt k) (length-replicate n []) ∙ lt-ltb k n low

-- and is told
empty_list : (n k : ℕ) → k < n → ◌≡◌ {A = Option (List Bool)} (slice_get (replicate n []) k) (Some [])
empty_list zero k low = absurd (omega arith)
empty_list (suc n) zero low = refl
empty_list (suc n) (suc k) low = empty_list n k (omega arith)

-- it has room for a leaf's share of the line
pub shares_in_room : (chain : Chain) (sees : List Event → Type 0) (bits k : ℕ) (room : ℕ → ℕ) (inputs inputs_now : Inputs) (outputs outputs_now : Outputs) → outputs ≡ outputs_of (replicate (leaves_of chain) []) → outputs_now.holds ≡ outputs.holds
    → ((k : ℕ) → k < leaves_of chain → bits / leaves_of chain < room k) → DemuxesPart (shapes_of chain) sees bits inputs inputs_now outputs outputs_now → IsTrue (outputs_now.holds k) → bits_held outputs_now k < room k
shares_in_room chain sees bits k room inputs inputs_now outputs outputs_now opened holds enough put held =
    let is : IsTrue (nat_lt k (length (replicate (leaves_of chain) []))) = subst IsTrue (ap (λ h. h k) holds ∙ ap (λ (o : Outputs). o.holds k) opened) held in
    let less : k < length (replicate {A = List Bool} (leaves_of chain) []) = ltb-true _ _ is in
    let low : k < leaves_of chain = omega (arith, less, length-replicate {A = List Bool} (leaves_of chain) []) in
    let empty : bits_held outputs k ≡ 0 = ap (λ (o : Outputs). bits_held o k) opened ∙ ap length_of (empty_list (leaves_of chain) k low) in
    let most = demux_short (shapes_of chain) sees bits inputs inputs_now outputs outputs_now (are_frames chain) put k in
    omega (arith, most, empty, enough k low)

-- ---- the line

-- a list that gave as many bits as it has gave all
all_given : (rest : Option (List Bool)) (given bits : List Bool) → Some bits ≡ before given rest → length given ≡ length bits → given ≡ bits
all_given None given bits told long = absurd (cc)
all_given (Some rest) given bits told long =
    let whole : bits ≡ given ++ rest = cc in
    let front : take (length given) bits ≡ given = ap (take (length given)) whole ∙ take-append_seam given rest in
    sym front ∙ ap (λ n. take n bits) long ∙ take-length bits

-- what was put to a leaf's list
list_put : (chain : Chain) (given : List Bool) (k : ℕ) (outputs outputs_now : Outputs) → k < leaves_of chain → outputs.told k ≡ Some [] → outputs_now.told k ≡ after (received_of (shapes_of chain) given k) (outputs.told k) →
    outputs_now.told k ≡ Some (far (shapes_of chain) given k)
list_put chain given k outputs outputs_now low empty put =
    let known : nat_lt k (width (shapes_of chain)) ≡ true = lt-ltb k (leaves_of chain) low in
    let bits : received_of (shapes_of chain) given k ≡ far (shapes_of chain) given k = rw known refl in
    put ∙ ap (after (received_of (shapes_of chain) given k)) empty ∙ ap Some bits

-- whatever was seen
pub whatever_seen : (chain : Chain) (sees : List Event → Type 0) (bits frames : ℕ) (inputs inputs_now : Inputs) (outputs outputs_now : Outputs) → Demuxes (shapes_of chain) sees bits frames inputs inputs_now outputs outputs_now
    → Demuxes (shapes_of chain) (λ events. ⊤) bits frames inputs inputs_now outputs outputs_now
whatever_seen chain sees bits frames inputs inputs_now outputs outputs_now d = record { given = d.given; count = d.count; line = d.line; seen = tt; frames_are = d.frames_are }

-- a line that was taken whole
pub have_received : (chain : Chain) (sees : List Event → Type 0) (bits : List Bool) (count frames leaves : ℕ) (inputs inputs_now : Inputs) (outputs outputs_now : Outputs) → count ≡ length bits → leaves ≡ leaves_of chain → inputs ≡ inputs_of (bits ∷ []) → outputs ≡ outputs_of (replicate leaves [])
    → ((k : ℕ) → k < leaves_of chain → IsTrue (outputs_now.holds k)) → Demuxes (shapes_of chain) sees count frames inputs inputs_now outputs outputs_now → HaveReceived chain bits outputs_now
have_received chain sees bits count frames leaves inputs inputs_now outputs outputs_now long all inputs_are outputs_are holds demuxes =
    let told : Some bits ≡ before demuxes.given (inputs_now.told 0) = sym (ap (λ (i : Inputs). i.told 0) inputs_are) ∙ demuxes.line.takes.bits 0 in
    let same : demuxes.given ≡ bits = all_given (inputs_now.told 0) demuxes.given bits told (demuxes.count ∙ long) in
    record {
      holds = holds;
      told = λ k low.
          let known : k < leaves = subst (λ n. k < n) (sym all) low in
          let empty : outputs.told k ≡ Some [] = ap (λ (o : Outputs). o.told k) outputs_are ∙ empty_list leaves k known in
          list_put chain demuxes.given k outputs outputs_now low empty (demuxes.line.puts k) ∙ ap (λ (b : List Bool). Some (far (shapes_of chain) b k)) same;
    }
