use Rattle.std.proofs.Common.{◌≡◌, ◌+◌, ℕ, Bool, List, true, false, cond, fold, refl, ap, sym, ◌∙◌, subst}
use mir.Val.{bool_byte}
use Rattle.pdh_line.specs.Paths.{top}
use Rattle.pdh_watch.specs.declared.event.Event.{Event}
use Rattle.pdh_watch.specs.declared.kind.TheConstants.Kind.{ALARM_ON, FEBE}
use Rattle.pdh_events.specs.Chain.{bit_events, bits_events, chain_events}
use Rattle.pdh_rx.specs.Meaning.{Meaning}
use Rattle.pdh_duplex.specs.declared.tally.Tally.{Tally}
use Rattle.pdh_duplex.specs.Tallies.{counted_with, tally_with}
use Rattle.pdh_duplex.proofs.MoreHeard.{events_noted, events_more, count_more, aligned_more, error_more}
use Rattle.pdh_duplex.proofs.TallyLaws.{alarms_are, febe_are}
use Rattle.pdh_duplex.proofs.incoming.Incoming.receive.Goals as goal

abbrev one_if : Bool → ℕ
one_if b = cond b 1 0

byte_is : (b : Bool) → bool_byte b ≡ one_if b
byte_is true = refl
byte_is false = refl

pub returns-clause-heard : goal.returns-clause-heard
returns-clause-heard g c shapes heard first has =
    let old = c.args.self.now in
    let new = c.take_watched.new.watch in
    let got : List Bool = heard.got in
    let bits : List Bool = c.args.bits.now.bits in
    let events : List Event = bits_events (bit_events shapes top) got bits in
    let tally : Tally = record old.watch.tally { in_error = false } in
    let same : bits_events (g.R.Rx.meaning old.receiver).notes got bits ≡ events = events_noted shapes (g.R.Rx.meaning old.receiver).notes got bits has.notes_are in
    let seen = c.in-Ok.ensures.seen got has.stands in
    let told : new.tally ≡ fold tally_with tally events = seen.1 ∙ ap (fold tally_with tally) same in
    let error_is = ap (λ (t : Tally). t.in_error) told ∙ error_more tally events refl in
    record {
      notes_are = λ line bit. ap (λ (m : Meaning). m.notes line bit) c.in-Ok.ensures.same ∙ has.notes_are line bit;
      delivered_is = λ line. ap (λ (m : Meaning). m.delivered line) c.in-Ok.ensures.same ∙ has.delivered_is line;
      stands = c.in-Ok.ensures.taken.stands got has.stands;
      saw =
          let more = subst (λ events. g.W.Watch.saw old.watch.watch events new.watch) same seen.0 in
          subst (λ events. g.W.Watch.saw first events new.watch) (sym (events_more shapes got bits)) (g.met.W.Watch.saw_join first old.watch.watch new.watch (chain_events shapes got) events has.saw more);
      aligned_is = ap (λ (t : Tally). t.aligned) told ∙ aligned_more tally shapes got bits has.aligned_is;
      in_error_is = error_is;
      alarms_are = ap (λ (t : Tally). t.alarms) told ∙ alarms_are tally events ∙ ap (λ n. fold (counted_with ALARM_ON) n events) has.alarms_are ∙ count_more ALARM_ON shapes got bits;
      febe_are = ap (λ (t : Tally). t.febe) told ∙ febe_are tally events ∙ ap (λ n. fold (counted_with FEBE) n events) has.febe_are ∙ count_more FEBE shapes got bits;
      errors_are = ap (λ n. n + c.from.result) has.errors_are ∙ ap (λ n. heard.errors + n) (c.from.ensures ∙ byte_is new.tally.in_error ∙ ap one_if error_is);
    }
