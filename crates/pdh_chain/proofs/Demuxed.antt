-- What a receiver of a whole chain puts, in terms of received lines.
use Rattle.std.proofs.Common.{◌≡◌, ℕ, ◌+◌, ◌<◌, ◌≤◌, Bool, true, false, cond, nat_lt, List, [], ◌++◌, length, refl, sym, ap, subst, ◌∙◌, inl, inr, arith, Option, Some, None, Err}
use Rattle.std.proofs.lemmas.Bool.{lt-ltb, le-ltb, cases_lt}
use Rattle.pdh_edge.specs.Ports.{Inputs, Outputs, Takes, PrefixOf, after}
use Rattle.pdh_shape.specs.Frame.{FrameShape}
use Rattle.pdh_nesting.specs.Chains.{width, AreFrames}
use Rattle.pdh_nesting.specs.Receiving.{far}
use Rattle.pdh_watch.specs.declared.event.Event.{Event}
use Rattle.pdh_events.specs.Chain.{chain_events}
use Rattle.pdh_rx.specs.Meaning.{Meaning, Gains, GainsPart}
use Rattle.pdh_line.specs.Paths.{top}
use Rattle.pdh_chain.specs.Trees.{receiver_of}
use Rattle.pdh_chain.specs.Muxing.{as_line}
use Rattle.pdh_chain.specs.Demuxing.{Receives, ReceivesFewer, ReceivesPart, IsReceiveStop, SeesPart}
use Rattle.pdh_chain.specs.Demuxes.{received_of, top_delivered, PutsReceived, Demuxes, DemuxesFewer, DemuxesPart, IsDemuxStop, IsDemuxLeft}
use Rattle.pdh_chain.specs.declared.stop.DemuxStop.{DemuxStop}
use Rattle.pdh_chain.specs.declared.stop.DemuxStop.TheVariants.{Memory, Ended, ReadFailed, WriteFailed}
use Rattle.pdh_chain.proofs.Lists.{takes_no_line}
use Rattle.pdh_chain.proofs.TreeLeaves.{leaf_in, leaf_out}
use Rattle.pdh_chain.proofs.Receivers.{receivers, got_far, got_else, far_none}
use Rattle.pdh_chain.proofs.Noted.{noted_is}

-- the receiver of a whole chain
abbrev pub chain_receiver : List FrameShape → Meaning
chain_receiver shapes = receiver_of shapes top 0

-- ---- its leaves

pub leaf_held : (shapes : List FrameShape) (k : ℕ) → (chain_receiver shapes).leaves k ≡ true → k < width shapes
leaf_held shapes k is = leaf_in receivers shapes top k is

pub got_is : (shapes : List FrameShape) (line : List Bool) (k : ℕ) → (chain_receiver shapes).got line k ≡ received_of shapes line k
got_is shapes line k = elim (cases_lt k (width shapes)) [
  | inl known ↦
      let number : k ≡ 0 + k = omega arith in
      ap (λ i. (chain_receiver shapes).got line i) number ∙ got_far shapes top 0 line k known ∙ sym (ap (λ b. cond b (far shapes line k) []) (lt-ltb k (width shapes) known))
  | inr past ↦ got_else shapes top 0 line k (leaf_out receivers shapes top k (omega arith)) ∙ sym (ap (λ b. cond b (far shapes line k) []) (le-ltb k (width shapes) (omega arith)))
]

-- nothing, before the first bit
got_none : (shapes : List FrameShape) (k : ℕ) → AreFrames shapes → (chain_receiver shapes).got [] k ≡ []
got_none shapes k are = got_is shapes [] k ∙ ap (λ l. cond (nat_lt k (width shapes)) l []) (far_none shapes k are) ∙ same (nat_lt k (width shapes))
  where
    same : (b : Bool) → cond {A = List Bool} b [] [] ≡ []
    same true = refl
    same false = refl

more_is : (shapes : List FrameShape) (given more : List Bool) (k : ℕ) → AreFrames shapes → (chain_receiver shapes).got given k ≡ (chain_receiver shapes).got [] k ++ more → more ≡ received_of shapes given k
more_is shapes given more k are gained = sym (ap (λ l. l ++ more) (got_none shapes k are)) ∙ sym gained ∙ got_is shapes given k

puts_received : (shapes : List FrameShape) (given : List Bool) (inputs inputs_now : Inputs) (outputs outputs_now : Outputs) → AreFrames shapes → Takes (as_line given) inputs inputs_now
    → Gains ((chain_receiver shapes).got []) ((chain_receiver shapes).got given) outputs outputs_now → PutsReceived shapes given inputs inputs_now outputs outputs_now
puts_received shapes given inputs inputs_now outputs outputs_now are takes gains = record {
  takes = takes;
  puts = λ k. gains.puts k ∙ ap (λ bits. after bits (outputs.told k)) (more_is shapes given (gains.more k) k are (gains.gained k));
}

-- ---- the calls

pub demuxes : (shapes : List FrameShape) (m : Meaning) (stands : List Bool → Type 0) (sees : List Event → Type 0) (bits frames : ℕ) (inputs inputs_now : Inputs) (outputs outputs_now : Outputs) → m ≡ chain_receiver shapes → AreFrames shapes
    → ((line : List Bool) → length line ≡ bits → stands line → frames ≡ top_delivered shapes line) → Receives m stands sees bits inputs inputs_now outputs outputs_now → Demuxes shapes sees bits frames inputs inputs_now outputs outputs_now
demuxes shapes m stands sees bits frames inputs inputs_now outputs outputs_now same are counted receives = record {
  given = receives.given;
  count = receives.count;
  line = puts_received shapes receives.given inputs inputs_now outputs outputs_now are receives.takes (subst (λ (m : Meaning). Gains (m.got []) (m.got receives.given) outputs outputs_now) same receives.gains);
  seen = subst sees (noted_is shapes m receives.given same are) receives.seen;
  frames_are = counted receives.given receives.count receives.stood;
}

fewer : (shapes : List FrameShape) (m : Meaning) (sees : List Event → Type 0) (bits : ℕ) (inputs inputs_now : Inputs) (outputs outputs_now : Outputs) → m ≡ chain_receiver shapes → AreFrames shapes → ReceivesFewer m sees bits inputs inputs_now outputs outputs_now → DemuxesFewer shapes sees bits inputs inputs_now outputs outputs_now
fewer shapes m sees bits inputs inputs_now outputs outputs_now same are receives = record {
  given = receives.given;
  fewer = receives.fewer;
  line = puts_received shapes receives.given inputs inputs_now outputs outputs_now are receives.takes (subst (λ (m : Meaning). Gains (m.got []) (m.got receives.given) outputs outputs_now) same receives.gains);
  seen = subst sees (noted_is shapes m receives.given same are) receives.seen;
}

part : (shapes : List FrameShape) (m : Meaning) (sees : List Event → Type 0) (bits : ℕ) (inputs inputs_now : Inputs) (outputs outputs_now : Outputs) → m ≡ chain_receiver shapes → AreFrames shapes → ReceivesPart m sees bits inputs inputs_now outputs outputs_now → DemuxesPart shapes sees bits inputs inputs_now outputs outputs_now
part shapes m sees bits inputs inputs_now outputs outputs_now same are receives =
    let gains : GainsPart ((chain_receiver shapes).got []) ((chain_receiver shapes).got receives.given) outputs outputs_now = subst (λ (m : Meaning). GainsPart (m.got []) (m.got receives.given) outputs outputs_now) same receives.gains in
    record {
      given = receives.given;
      upto = receives.upto;
      takes = receives.takes;
      puts = λ k. subst (λ bits. PrefixOf bits (outputs.told k) (outputs_now.told k)) (more_is shapes receives.given (gains.more k) k are (gains.gained k)) (gains.puts k);
      seen = subst (SeesPart sees) (noted_is shapes m receives.given same are) receives.seen;
    }

-- a stop of the receiver, where its counts of faults are compared with those before the port's start
pub stops : (shapes : List FrameShape) (m : Meaning) (sees : List Event → Type 0) (bits : ℕ) (inputs inputs_now : Inputs) (outputs outputs_now : Outputs) (first reads now start writes writes_now : ℕ) (stop : DemuxStop) → m ≡ chain_receiver shapes → AreFrames shapes → first ≤ reads → start ≤ writes
    → IsReceiveStop m sees bits inputs inputs_now outputs outputs_now reads now writes writes_now stop → IsDemuxStop shapes sees bits inputs inputs_now outputs outputs_now first now start writes_now stop
stops shapes m sees bits inputs inputs_now outputs outputs_now first reads now start writes writes_now Memory same are h h' why = absurd why
stops shapes m sees bits inputs inputs_now outputs outputs_now first reads now start writes writes_now Ended same are h h' why = (why.0, why.1, fewer shapes m sees bits inputs inputs_now outputs outputs_now same are why.2)
stops shapes m sees bits inputs inputs_now outputs outputs_now first reads now start writes writes_now ReadFailed same are h h' why = (omega (arith, why.0, h), fewer shapes m sees bits inputs inputs_now outputs outputs_now same are why.1)
stops shapes m sees bits inputs inputs_now outputs outputs_now first reads now start writes writes_now WriteFailed same are h h' why = (omega (arith, why.0, h'), part shapes m sees bits inputs inputs_now outputs outputs_now same are why.1)

-- a receiver leaves the port ready where it stops
pub left : (m : Meaning) (sees : List Event → Type 0) (bits : ℕ) (inputs inputs_now : Inputs) (outputs outputs_now : Outputs) (reads now writes writes_now : ℕ) (fresh ready refused : Type 0) (stop : DemuxStop) → IsReceiveStop m sees bits inputs inputs_now outputs outputs_now reads now writes writes_now stop
    → ready → IsDemuxLeft fresh ready refused (Err stop)
left m sees bits inputs inputs_now outputs outputs_now reads now writes writes_now fresh ready refused Memory why here = absurd why
left m sees bits inputs inputs_now outputs outputs_now reads now writes writes_now fresh ready refused Ended why here = here
left m sees bits inputs inputs_now outputs outputs_now reads now writes writes_now fresh ready refused ReadFailed why here = here
left m sees bits inputs inputs_now outputs outputs_now reads now writes writes_now fresh ready refused WriteFailed why here = inl here

-- ---- a start that failed

prefix_same : (bits : List Bool) (told : Option (List Bool)) → PrefixOf bits told told
prefix_same bits None = tt
prefix_same bits (Some list) = (bits, refl)

pub nothing_received : (shapes : List FrameShape) (sees : List Event → Type 0) (bits : ℕ) (inputs inputs_now : Inputs) (outputs outputs_now : Outputs) → inputs_now ≡ inputs → outputs_now ≡ outputs → sees [] → DemuxesPart shapes sees bits inputs inputs_now outputs outputs_now
nothing_received shapes sees bits inputs inputs_now outputs outputs_now same same' seen = record {
  given = [];
  upto = omega arith;
  takes = subst (Takes (as_line []) inputs) (sym same) (takes_no_line inputs);
  puts = λ k. subst (λ told. PrefixOf (received_of shapes [] k) (outputs.told k) told) (ap (λ (o : Outputs). o.told k) (sym same')) (prefix_same (received_of shapes [] k) (outputs.told k));
  seen = ([], chain_events shapes [], refl, seen);
}
