-- Where a line comes back to what its chain sent, so do the lists of the leaves.
use Rattle.std.proofs.Common.{◌≡◌, ℕ, ◌+◌, ◌-◌, ◌*◌, ◌<◌, Bool, cond, List, [], ◌∷◌, ◌++◌, length, take, refl, sym, ap, ◌∙◌, subst, Option, Some, None, arith}
use Rattle.std.proofs.lemmas.Bool.{lt-ltb}
use Rattle.std.proofs.Math.Seq.{take-append_seam}
use Rattle.pdh_edge.specs.Ports.{Inputs, Outputs, before, after}
use Rattle.pdh_shape.specs.Frame.{FrameShape, idle}
use Rattle.pdh_shape.specs.declared.role.Service.{Service}
use Rattle.pdh_line.specs.Receiving.{received}
use Rattle.pdh_line.specs.Sending.Mode.{Plain}
use Rattle.pdh_line.specs.Sending.{Source, line_bit}
use Rattle.pdh_line.specs.Nodes.{child, Counts}
use Rattle.pdh_nesting.specs.Chains.{width, AreFrames}
use Rattle.pdh_nesting.specs.Sending.{chain_line, content_of}
use Rattle.pdh_nesting.specs.Receiving.{far}
use Rattle.pdh_watch.specs.declared.event.Event.{Event}
use Rattle.pdh_recovery.specs.Downwards.{KeepRight}
use Rattle.pdh_recovery.specs.Recovering.{Rejoins}
use Rattle.pdh_recovery.proofs.RecoverLaws.{recovers}
use Rattle.pdh_recovery.proofs.DownLaws.{sent_all_right, downwards, leaf_comes_back}
use Rattle.pdh_recovery.proofs.FlippedLaws.{contained_sent}
use Rattle.pdh_chain.specs.Chains.{shapes_of}
use Rattle.pdh_chain.specs.declared.chain.Chain.{Chain}
use Rattle.pdh_chain.specs.Demuxes.{received_of, Demuxes}
use Rattle.pdh_chain.specs.Recovered.{IsPut, LeavesComeBack, TopComesBack, ErrorsAreContained, ComesBackFrom}
use Rattle.pdh_chain.proofs.ChainLaws.{are_frames, keep_right}

-- the first bits of a list are those that were taken of it
front_taken : (list given : List Bool) (now : Option (List Bool)) (bits : ℕ) → Some list ≡ before given now → length given ≡ bits → take bits list ≡ given
front_taken list given None bits is count = cc
front_taken list given (Some rest) bits is count =
    let all : list ≡ given ++ rest = cc in
    ap (take bits) all ∙ ap (λ n. take n (given ++ rest)) (sym count) ∙ take-append_seam given rest

-- what a leaf receives was put to its list
put_of : (shapes : List FrameShape) (line : List Bool) (outputs outputs_now : Outputs) (leaf : ℕ) → leaf < width shapes
    → outputs_now.told leaf ≡ after (received_of shapes line leaf) (outputs.told leaf) → IsPut (far shapes line leaf) leaf outputs outputs_now
put_of shapes line outputs outputs_now leaf known put before told =
    put ∙ ap (after (received_of shapes line leaf)) told ∙ ap (λ b. Some (before ++ cond b (far shapes line leaf) [])) (lt-ltb leaf (width shapes) known)

abbrev pub source_of : FrameShape → List FrameShape → Counts → (ℕ → List Bool) → (ℕ → Service) → Source
source_of s below counts lists says =
    record { mode = Plain; counts = counts []; inputs = λ j. chain_line Plain below counts (content_of lists says).bits (λ n. idle) (child [] j) (0 + j * width below); says = says }

top_comes_back : (shapes : List FrameShape) (line : List Bool) → AreFrames shapes → KeepRight shapes → TopComesBack shapes line
unfolding chain_line
top_comes_back [] line are keep = tt
top_comes_back (s ∷ below) line are keep =
    λ counts lists says e u m same quiet long.
    let source : Source = source_of s below counts lists says in (
      recovers s line (line_bit s source) e u m are.0 keep.0 same (sent_all_right s source (u + (length line - e))) quiet long,
      λ trib known.
          let down = downwards s source line e u m trib refl are.0 are.1 keep.0 known same quiet long in
          let first : 0 + trib * width below ≡ trib * width below = omega arith in
          (down.0, down.1, down.2, subst (λ n. Rejoins (received s trib line) (chain_line Plain below counts (content_of lists says).bits (λ n. idle) (child [] trib) n) down.0 down.1) first down.3),
    )

contained_top : (shapes : List FrameShape) (line : List Bool) → AreFrames shapes → ErrorsAreContained shapes line
unfolding chain_line
contained_top [] line are = tt
contained_top (s ∷ below) line are =
    λ counts lists says trib known one few.
    contained_sent s (source_of s below counts lists says) line trib are.0 are.1 known one few

pub recovered : (shapes : List FrameShape) (sees : List Event → Type 0) (bits frames : ℕ) (inputs inputs_now : Inputs) (outputs outputs_now : Outputs) → AreFrames shapes → KeepRight shapes
    → Demuxes shapes sees bits frames inputs inputs_now outputs outputs_now → ComesBackFrom shapes bits inputs outputs outputs_now
recovered shapes sees bits frames inputs inputs_now outputs outputs_now are keep demuxes list told =
    let given : List Bool = demuxes.given in
    let is : take bits list ≡ given = front_taken list given (inputs_now.told 0) bits (sym told ∙ demuxes.line.takes.bits 0) demuxes.count in
    subst (λ line. LeavesComeBack shapes line outputs outputs_now × TopComesBack shapes line × ErrorsAreContained shapes line) (sym is) (
      (λ leaf known. (far shapes given leaf, put_of shapes given outputs outputs_now leaf known (demuxes.line.puts leaf), leaf_comes_back shapes given leaf are keep known)),
      top_comes_back shapes given are keep,
      contained_top shapes given are,
    )

-- the same of each chain
pub chain_recovered : (chain : Chain) (sees : List Event → Type 0) (bits frames : ℕ) (inputs inputs_now : Inputs) (outputs outputs_now : Outputs)
    → Demuxes (shapes_of chain) sees bits frames inputs inputs_now outputs outputs_now → ComesBackFrom (shapes_of chain) bits inputs outputs outputs_now
chain_recovered chain sees bits frames inputs inputs_now outputs outputs_now demuxes =
    recovered (shapes_of chain) sees bits frames inputs inputs_now outputs outputs_now (are_frames chain) (keep_right chain) demuxes
