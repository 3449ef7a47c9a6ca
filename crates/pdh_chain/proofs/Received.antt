-- Bits that are given to a receiver, some after others.
use Rattle.std.proofs.Common.{◌≡◌, ℕ, ◌+◌, ◌<◌, ◌≤◌, Bool, List, [], ◌++◌, length, refl, sym, ap, subst, ◌∙◌, arith, Ok, Err}
use Rattle.std.proofs.lemmas.List.{append-nil, length-append}
use Rattle.pdh_edge.specs.Counts.{one_more}
use Rattle.pdh_edge.specs.Files.{Rose}
use Rattle.pdh_edge.specs.Ports.{Inputs, Outputs, Takes, nothing, faults_fed, before as told_before}
use Rattle.pdh_edge.specs.declared.port.Feed as feed
use Rattle.pdh_edge.specs.declared.port.Drain as drain
use Rattle.pdh_edge.specs.declared.port.FeedStop.{FeedStop}
use Rattle.pdh_edge.specs.declared.port.FeedStop.TheVariants.{Failed, Ended}
use Rattle.pdh_edge.proofs.Progress.{both_counts}
use Rattle.pdh_edge.proofs.Runs.{rose_of, rose_of_feed}
use Rattle.pdh_watch.specs.declared.event.Event.{Event}
use Rattle.pdh_events.specs.Chain.{bits_events}
use Rattle.pdh_events.specs.laws.QuietLaws.{events_join}
use Rattle.pdh_rx.specs.Meaning.{Meaning, Gains, TakesBits, TakesPart}
use Rattle.pdh_rx.proofs.Gains.{gains_nothing, gains_join, part_after}
use Rattle.pdh_chain.specs.Calls.{ReceivesFirst}
use Rattle.pdh_chain.specs.Demuxing.{Receives, ReceivesFewer, IsReceiveStop, SeesPart, feed_stop}
use Rattle.pdh_chain.specs.Faults.{counted_at_demux_stop}
use Rattle.pdh_chain.specs.Muxing.{as_line}
use Rattle.pdh_chain.specs.declared.stop.DemuxStop.TheVariants.{WriteFailed}
use Rattle.pdh_chain.proofs.Lists.{takes_then, takes_line, takes_no_line}

pub receives_none : (m : Meaning) (stands : List Bool → Type 0) (sees : List Event → Type 0) (x : Inputs) (o : Outputs) → stands [] → sees [] → Receives m stands sees 0 x x o o
receives_none m stands sees x o here seen = record {
  given = [];
  count = refl;
  takes = takes_no_line x;
  stood = here;
  gains = gains_nothing (m.got []) (m.got []) o (λ k. refl);
  seen = seen;
}

-- more bits
receives_more : (m now : Meaning) (stands next : List Bool → Type 0) (sees sees_next : List Event → Type 0) (n count : ℕ) (bits : List Bool) (x y z z' : Inputs) (o p p' q : Outputs) → now ≡ m → z' ≡ z → p' ≡ p → length bits ≡ count → Receives m stands sees n x y o p
    → Takes (as_line bits) y z → TakesBits now bits stands next p' q → ((line : List Bool) (events : List Event) → stands line → sees events → sees_next (events ++ bits_events now.notes line bits)) → Receives m next sees_next (n + count) x z' o q
receives_more m now stands next sees sees_next n count bits x y z z' o p p' q same inputs outputs long before takes taken notes =
    let here : TakesBits m bits stands next p q = subst (λ o. TakesBits m bits stands next o q) outputs (subst (λ (m : Meaning). TakesBits m bits stands next p' q) same taken) in
    record {
      given = before.given ++ bits;
      count = omega (arith, length-append before.given bits, before.count, long);
      takes = subst (Takes (as_line (before.given ++ bits)) x) (sym inputs) (takes_line before.given bits x y z before.takes takes);
      stood = here.stands before.given before.stood;
      gains = gains_join (m.got []) (m.got before.given) (m.got (before.given ++ bits)) o p q before.gains (here.gains before.given before.stood);
      seen =
          let events : List Event = bits_events m.notes [] before.given in
          let step : sees_next (events ++ bits_events m.notes before.given bits) = subst (λ (m : Meaning). sees_next (events ++ bits_events m.notes before.given bits)) same (notes before.given events before.stood before.seen) in
          subst sees_next (sym (events_join m.notes [] before.given bits)) step;
    }

-- bits that couldn't be taken
fewer : (m : Meaning) (stands : List Bool → Type 0) (sees : List Event → Type 0) (n bits : ℕ) (x y z : Inputs) (o p p' : Outputs) → n < bits → p' ≡ p → Receives m stands sees n x y o p → Takes nothing y z → ReceivesFewer m sees bits x z o p'
fewer m stands sees n bits x y z o p p' less outputs before takes =
    let all = takes_then (as_line before.given) nothing x y z before.takes takes in
    record {
      given = before.given;
      fewer = omega (arith, less, before.count);
      takes = record {
        counts = λ k. all.counts k ∙ ap (λ l. length l + z.left k) (append-nil (as_line before.given k));
        bits = λ k. all.bits k ∙ ap (λ l. told_before l (z.told k)) (append-nil (as_line before.given k));
      };
      gains = subst (Gains (m.got []) (m.got before.given) o) (sym outputs) before.gains;
      seen = before.seen;
    }

feed_stops : (m : Meaning) (stands : List Bool → Type 0) (sees : List Event → Type 0) (n bits : ℕ) (x y z : Inputs) (o p p' : Outputs) (first reads now writes writes_now : ℕ) (why : FeedStop) → n < bits → p' ≡ p → Receives m stands sees n x y o p → Takes nothing y z
    → first ≤ reads → (why ≡ Failed → Rose reads now) → (why ≡ Ended → y.left 0 ≡ 0) → IsReceiveStop m sees bits x z o p' first now writes writes_now (feed_stop why)
feed_stops m stands sees n bits x y z o p p' first reads now writes writes_now Failed less outputs before takes later failed ended = (omega (arith, later, failed refl), fewer m stands sees n bits x y z o p p' less outputs before takes)
feed_stops m stands sees n bits x y z o p p' first reads now writes writes_now Ended less outputs before takes later failed ended = (
  omega (arith, before.takes.counts 0, before.count, ended refl, less),
  omega (arith, takes.counts 0, ended refl),
  fewer m stands sees n bits x y z o p p' less outputs before takes,
)

-- the counts of faults where the line gives no bit
feed_counts : (why : FeedStop) (r r' w w' : ℕ) → r' ≡ faults_fed why r → w' ≡ w → ◌≡◌ {A = ℕ × ℕ} (r', w') (counted_at_demux_stop (feed_stop why) (r, w))
feed_counts Failed r r' w w' counted same = both_counts counted same
feed_counts Ended r r' w w' counted same = both_counts counted same

-- bits of which not all could be put that the leaves got by them
put_stops : (m now : Meaning) (stands : List Bool → Type 0) (sees sees_next : List Event → Type 0) (n all : ℕ) (bits : List Bool) (x y z z' : Inputs) (o p p' q : Outputs) (reads reads_now first writes writes_now : ℕ) → now ≡ m → z' ≡ z → p' ≡ p → n + length bits ≤ all → Receives m stands sees n x y o p
    → Takes (as_line bits) y z → TakesPart now bits stands p' q → ((line : List Bool) (events : List Event) → stands line → sees events → SeesPart sees_next (events ++ bits_events now.notes line bits)) → first ≤ writes → Rose writes writes_now
    → IsReceiveStop m sees_next all x z' o q reads reads_now first writes_now WriteFailed
put_stops m now stands sees sees_next n all bits x y z z' o p p' q reads reads_now first writes writes_now same inputs outputs upto before takes taken notes later rose =
    let here : TakesPart m bits stands p q = subst (λ o. TakesPart m bits stands o q) outputs (subst (λ (m : Meaning). TakesPart m bits stands p' q) same taken) in (
      omega (arith, later, rose),
      record {
        given = before.given ++ bits;
        upto = omega (arith, length-append before.given bits, before.count, upto);
        takes = subst (Takes (as_line (before.given ++ bits)) x) (sym inputs) (takes_line before.given bits x y z before.takes takes);
        gains = part_after (m.got []) (m.got before.given) (m.got (before.given ++ bits)) (m.got (before.given ++ bits)) o p q before.gains (here.gains before.given before.stood) (λ k. ([], sym (append-nil (m.got (before.given ++ bits) k))));
        seen =
            let events : List Event = bits_events m.notes [] before.given in
            let step : SeesPart sees_next (events ++ bits_events m.notes before.given bits) = subst (λ (m : Meaning). SeesPart sees_next (events ++ bits_events m.notes before.given bits)) same (notes before.given events before.stood before.seen) in
            subst (SeesPart sees_next) (sym (events_join m.notes [] before.given bits)) step;
      },
    )

-- ---- a port that gives a receiver its line

module _ {P : Type 0} (feeds : feed.Ghosts P) (drains : drain.Ghosts P) (keeps : P → P → Type 0) (m : Meaning) (stands : List Bool → Type 0) (sees : List Event → Type 0) (n all : ℕ) (a b : P) (join : (c : P) → keeps a b → keeps b c → keeps a c) (before : ReceivesFirst {T = Unit {0}} feeds drains keeps m stands sees n all a b (Ok tt)) where
  -- a call for bits gave none
  pub feed_fails : (next : List Bool → Type 0) (c : P) (why : FeedStop) → n < all → keeps b c → (drains.outputs c ≡ drains.outputs b) × (drains.drain_faults c ≡ drains.drain_faults b) → Takes nothing (feeds.inputs b) (feeds.inputs c)
      → feeds.feed_faults c ≡ faults_fed why (feeds.feed_faults b) → (why ≡ Ended → (feeds.inputs b).left 0 ≡ 0) → ReceivesFirst {T = Unit {0}} feeds drains keeps m next sees all all a c (Err (feed_stop why))
  feed_fails next c why less kept same takes counted ended =
      let reads : feeds.feed_faults b ≡ feeds.feed_faults a = ap (λ (k : ℕ × ℕ). k.0) before.counts in
      record {
        kept = join c before.kept kept;
        counts = feed_counts why _ _ _ _ (counted ∙ ap (faults_fed why) reads) (same.1 ∙ ap (λ (k : ℕ × ℕ). k.1) before.counts);
        does = feed_stops m stands sees n all _ _ _ _ _ _ (feeds.feed_faults a) (feeds.feed_faults b) (feeds.feed_faults c) (drains.drain_faults a) (drains.drain_faults c) why less same.0 before.does takes (omega (arith, reads)) (rose_of_feed why _ _ counted) ended;
      }

  -- bits were taken, and what the leaves got by them was put, or not all of it
  module _ (now : Meaning) (next : List Bool → Type 0) (sees_next : List Event → Type 0) (bits : List Bool) (c d : P) (kept : keeps b d) (fed : (drains.outputs c ≡ drains.outputs b) × (drains.drain_faults c ≡ drains.drain_faults b)) (drained : (feeds.inputs d ≡ feeds.inputs c) × (feeds.feed_faults d ≡ feeds.feed_faults c)) (same : now ≡ m) (read : feeds.feed_faults c ≡ feeds.feed_faults b) (takes : Takes (as_line bits) (feeds.inputs b) (feeds.inputs c)) where
    pub bits_received : (count : ℕ) → length bits ≡ count → TakesBits now bits stands next (drains.outputs c) (drains.outputs d) → ((line : List Bool) (events : List Event) → stands line → sees events → sees_next (events ++ bits_events now.notes line bits))
        → drains.drain_faults d ≡ drains.drain_faults c → ReceivesFirst {T = Unit {0}} feeds drains keeps m next sees_next (n + count) all a d (Ok tt)
    bits_received count long taken notes written = record {
      kept = join d before.kept kept;
      counts = both_counts (drained.1 ∙ read) (written ∙ fed.1) ∙ before.counts;
      does = receives_more m now stands next sees sees_next n count bits _ _ _ _ _ _ _ _ same drained.0 fed.0 long before.does takes taken notes;
    }

    pub put_fails : n + length bits ≤ all → TakesPart now bits stands (drains.outputs c) (drains.outputs d) → ((line : List Bool) (events : List Event) → stands line → sees events → SeesPart sees_next (events ++ bits_events now.notes line bits))
        → drains.drain_faults d ≡ one_more (drains.drain_faults c) → ReceivesFirst {T = Unit {0}} feeds drains keeps m next sees_next all all a d (Err WriteFailed)
    put_fails upto taken notes counted =
        let writes : drains.drain_faults c ≡ drains.drain_faults a = fed.1 ∙ ap (λ (k : ℕ × ℕ). k.1) before.counts in
        record {
          kept = join d before.kept kept;
          counts = both_counts (drained.1 ∙ read ∙ ap (λ (k : ℕ × ℕ). k.0) before.counts) (counted ∙ ap one_more writes);
          does = put_stops m now stands sees sees_next n all bits _ _ _ _ _ _ _ _ (feeds.feed_faults a) (feeds.feed_faults d) (drains.drain_faults a) (drains.drain_faults c) (drains.drain_faults d) same drained.0 fed.0 upto before.does takes taken notes (omega (arith, writes)) (rose_of _ _ counted);
        }
