use Rattle.std.proofs.Common.{◌≡◌, ℕ, ◌+◌, ◌-◌, ◌*◌, ◌<◌, ◌≤◌, Bool, true, false, refl, sym, ap, ◌∙◌, subst, arith, inl, inr}
use Rattle.std.specs.Prelude.{nat_lt, IfSome}
use Rattle.std.proofs.Math.Nat.{mul-le-mul_right}
use Rattle.std.proofs.lemmas.Bool.{ltb-true, lt-ltb, cases_lt}
use Rattle.pdh_edge.specs.Counts.{one_more}
use Rattle.pdh_edge.proofs.Progress.{starts, both_counts}
use Rattle.pdh_edge.proofs.Runs.{rose_of}
use Rattle.pdh_edge.specs.Ports.{Inputs, only_waiting}
use Rattle.pdh_tx.specs.Meaning.{plan_in, Meaning}
use Rattle.pdh_tx.specs.Making.{IsUneventful}
use Rattle.pdh_tx.specs.Telling.{TellsAll}
use Rattle.pdh_tx.proofs.Telling.{tells_ok, all_none}
use Rattle.pdh_chain.specs.Calls.{StopsFrame}
use Rattle.pdh_chain.specs.Muxing.{MakesBits}
use Rattle.pdh_chain.specs.Saying.{says_of}
use Rattle.pdh_chain.specs.Slipping.{slips_over}
use Rattle.pdh_chain.proofs.Telling.{front_told, front_stops, port_failed}
use Rattle.pdh_chain.proofs.Frames.{is_told, said_alike, said_upto, sending_none, sending_more, sending_sends, sending_fails, frames_end, frames_upto, frames_within, frame_ends, frame_counts, free_none, free_first, free_same, free_after, alone_of, enough_for, rest_enough, rest_ends}
use Rattle.pdh_chain.proofs.sending.send_frames.Goals as goal

pub loop-whole-init : goal.loop-whole-init
loop-whole-init g c =
    let m : Meaning = g.T.Tx.meaning c.args.sender.now in
    let plan = plan_in c.args.clock.now g.G.SlipLog.takes in
    let none : c.unknown-ahead.result.waiting * c.args.len ≡ 0 * c.args.len = ap (λ v. v * c.args.len) c.unknown-ahead.ensures.waiting in
    record {
      running = c.requires.sender.running;
      said = c.channel_of-channel.ensures;
      same = refl;
      room = refl;
      upto = omega arith;
      ahead = free_none m plan _ _ (g.P.Feed.inputs c.args.port.now) (omega (arith, c.unknown-ahead.ensures.clear));
      waiting = free_none m plan _ _ (only_waiting (g.P.Feed.inputs c.args.port.now) (g.P.Feed.waits c.args.port.now)) (omega (arith, none));
      enough = omega (arith, none);
      lists = refl;
      lines = refl;
      told =
          let nothing : 0 ≡ 0 * c.args.len = omega arith in
          subst (λ (n : ℕ). TellsAll g.G.SlipLog c.args.log.now c.args.log.now (slips_over m plan 0 n)) nothing (all_none g.G.SlipLog (record { nothing = g.met.G.SlipLog.logged_nothing; joins = g.met.G.SlipLog.logged_join; breaks = g.met.G.SlipLog.broken_join }) c.args.log.now);
      sends = starts (g.met.P.Port.kept_same c.args.port.now) (sending_none m (says_of c.args.feac) (g.T.Tx.stands_at c.args.sender.now plan) (g.T.Tx.stands_for c.args.sender.now) plan _ _ _ (omega arith) c.requires.sender.stands);
    }

pub make_frames-requires-clause-waiting : goal.make_frames-requires-clause-waiting
make_frames-requires-clause-waiting g c =
    let plan = plan_in c.args.clock.now g.G.SlipLog.takes in
    let inv = c.loop-whole.invariant in
    let n : ℕ = c.loop-whole.whole in
    let len : ℕ = c.args.len in
    let count : ℕ = c.max-count.result in
    let x : ℕ = n * len in
    let some : 0 < count = omega (arith, c.max-count.ensures) in
    let few : count ≤ c.at_once-most.result = omega (arith, c.max-count.ensures, c.min-in-loop-whole.ensures, c.min.ensures, c.at_once-most.ensures.some) in
    let upto : n + count ≤ c.args.frames = omega (arith, c.max-count.ensures, c.min-in-loop-whole.ensures, c.loop-whole-test.true) in
    let alone : IfSome c.args.feac (λ code. count ≡ 1) = alone_of c.args.feac c.at_once-most.result count c.at_once-most.ensures.alone some few in
    let set = is_told g.T.Tx c.args.sender.now c.loop-whole.sender c.set.new.self plan (says_of c.args.feac) len n count _ _ _ _ c.requires.sender.frames inv.same c.set.ensures.meaning (λ n. c.set.ensures.placed plan n) (λ supply n. c.set.ensures.held supply n)
    (said_alike c.args.feac n count (g.T.Tx.says c.set.new.self) (c.set.ensures.says ∙ c.next_service.ensures.says c.args.feac n inv.said) alone) inv.sends.does in
    let place = set.sending.makes.place in
    let m : Meaning = g.T.Tx.meaning c.set.new.self in
    let known_waiting = subst (λ (m : Meaning). IsUneventful m plan x (x + c.loop-whole.ahead.waiting * len) (only_waiting (g.P.Feed.inputs c.loop-whole.port) (g.P.Feed.waits c.loop-whole.port))) (sym set.same) inv.waiting in
    let free_waiting = subst (λ port. IsUneventful m plan x (x + c.look-known.result.waiting * len) (only_waiting (g.P.Feed.inputs port) (g.P.Feed.waits port))) (sym c.look-known.ensures.same) (c.look-known.ensures.waiting x place known_waiting) in
    λ waits.
    let within : count ≤ c.look-known.result.waiting = omega (arith, ltb-true _ _ waits, c.max-count.ensures, c.min-in-loop-whole.ensures, c.min.ensures, c.at_once-most.ensures.some, c.loop-whole-test.true) in
    (x, place, free_first m plan x (x + count * len) (x + c.look-known.result.waiting * len) _ (omega (arith, mul-le-mul_right len within)) free_waiting)

pub returns-in-Err-clause-sent : goal.returns-in-Err-clause-sent
returns-in-Err-clause-sent g c =
    let plan = plan_in c.args.clock.now g.G.SlipLog.takes in
    let inv = c.loop-whole.invariant in
    let n : ℕ = c.loop-whole.whole in
    let len : ℕ = c.args.len in
    let count : ℕ = c.max-count.result in
    let x : ℕ = n * len in
    let some : 0 < count = omega (arith, c.max-count.ensures) in
    let few : count ≤ c.at_once-most.result = omega (arith, c.max-count.ensures, c.min-in-loop-whole.ensures, c.min.ensures, c.at_once-most.ensures.some) in
    let upto : n + count ≤ c.args.frames = omega (arith, c.max-count.ensures, c.min-in-loop-whole.ensures, c.loop-whole-test.true) in
    let alone : IfSome c.args.feac (λ code. count ≡ 1) = alone_of c.args.feac c.at_once-most.result count c.at_once-most.ensures.alone some few in
    let set = is_told g.T.Tx c.args.sender.now c.loop-whole.sender c.set.new.self plan (says_of c.args.feac) len n count _ _ _ _ c.requires.sender.frames inv.same c.set.ensures.meaning (λ n. c.set.ensures.placed plan n) (λ supply n. c.set.ensures.held supply n)
    (said_alike c.args.feac n count (g.T.Tx.says c.set.new.self) (c.set.ensures.says ∙ c.next_service.ensures.says c.args.feac n inv.said) alone) inv.sends.does in
    let place = set.sending.makes.place in
    let m : Meaning = g.T.Tx.meaning c.set.new.self in
    let fed = subst (λ port. g.P.Feed.fed port c.make_frames.new.feed) c.look-known.ensures.same c.make_frames.ensures.fed.fed in
    let kept_outputs = g.met.P.Port.fed_keeps_outputs c.loop-whole.port c.make_frames.new.feed fed in
    let one : count ≡ 1 = elim (cases_lt 0 c.look-known.result.waiting) [
      | inl waits ↦
          let within : count ≤ c.look-known.result.waiting = omega (arith, waits, c.max-count.ensures, c.min-in-loop-whole.ensures, c.min.ensures, c.at_once-most.ensures.some, c.loop-whole-test.true) in
          absurd (no (c.in-Err.ensures.sure (lt-ltb _ _ waits) (enough_for c.look-known.result.waiting count len c.look-known.result.clear within (c.look-known.ensures.enough inv.enough))))
      | inr none ↦ omega (arith, none, c.max-count.ensures, c.min-in-loop-whole.ensures, c.min.ensures)
    ] in
    let bits : count * len ≡ len = omega (arith, ap (λ v. v * len) one) in
    let stops = subst (λ port. StopsFrame g.T.Tx c.set.new.self plan len (g.P.Feed.inputs port) (g.P.Feed.inputs c.make_frames.new.feed) (g.P.Feed.feed_faults port) (g.P.Feed.feed_faults c.make_frames.new.feed) c.in-Err.stop) c.look-known.ensures.same
    (subst (λ (bits : ℕ). StopsFrame g.T.Tx c.set.new.self plan bits (g.P.Feed.inputs c.look-known.new.feed) (g.P.Feed.inputs c.make_frames.new.feed) (g.P.Feed.feed_faults c.look-known.new.feed) (g.P.Feed.feed_faults c.make_frames.new.feed) c.in-Err.stop) bits c.in-Err.ensures.stops) in
    let reads : g.P.Feed.feed_faults c.loop-whole.port ≡ g.P.Feed.feed_faults c.args.port.now = ap (λ (k : ℕ × ℕ). k.0) inv.sends.counts in
    let writes = kept_outputs.1 ∙ ap (λ (k : ℕ × ℕ). k.1) inv.sends.counts in
    record {
      kept = g.met.P.Port.kept_join _ _ _ inv.sends.kept (g.met.P.Port.fed_is_kept _ _ fed);
      counts = frame_counts g.T.Tx c.args.sender.now c.set.new.self plan (says_of c.args.feac) _ _ len c.args.frames n _ _ _ _ _ set.same set.sending c.in-Err.stop _ _ _ _ _ reads writes stops;
      does = frame_ends g.T.Tx c.args.sender.now c.set.new.self plan (says_of c.args.feac) _ _ len c.args.frames n _ _ _ _ _ set.same set.sending c.in-Err.stop _ _ _ _ _ _ kept_outputs.0 c.loop-whole-test.true reads stops;
    }
  where
    no : false ≡ true → ⊥
    no h = cc

pub returns-in-Err-put_all-clause-sent : goal.returns-in-Err-put_all-clause-sent
returns-in-Err-put_all-clause-sent g c =
    let plan = plan_in c.args.clock.now g.G.SlipLog.takes in
    let inv = c.loop-whole.invariant in
    let n : ℕ = c.loop-whole.whole in
    let len : ℕ = c.args.len in
    let count : ℕ = c.max-count.result in
    let x : ℕ = n * len in
    let some : 0 < count = omega (arith, c.max-count.ensures) in
    let few : count ≤ c.at_once-most.result = omega (arith, c.max-count.ensures, c.min-in-loop-whole.ensures, c.min.ensures, c.at_once-most.ensures.some) in
    let upto : n + count ≤ c.args.frames = omega (arith, c.max-count.ensures, c.min-in-loop-whole.ensures, c.loop-whole-test.true) in
    let alone : IfSome c.args.feac (λ code. count ≡ 1) = alone_of c.args.feac c.at_once-most.result count c.at_once-most.ensures.alone some few in
    let set = is_told g.T.Tx c.args.sender.now c.loop-whole.sender c.set.new.self plan (says_of c.args.feac) len n count _ _ _ _ c.requires.sender.frames inv.same c.set.ensures.meaning (λ n. c.set.ensures.placed plan n) (λ supply n. c.set.ensures.held supply n)
    (said_alike c.args.feac n count (g.T.Tx.says c.set.new.self) (c.set.ensures.says ∙ c.next_service.ensures.says c.args.feac n inv.said) alone) inv.sends.does in
    let place = set.sending.makes.place in
    let m : Meaning = g.T.Tx.meaning c.set.new.self in
    let known = subst (λ (m : Meaning). IsUneventful m plan x (x + c.loop-whole.ahead.clear) (g.P.Feed.inputs c.loop-whole.port)) (sym set.same) inv.ahead in
    let free = c.look-known.ensures.clear x place known in
    let free_now = subst (λ port. IsUneventful m plan x (x + c.look-known.result.clear) (g.P.Feed.inputs port)) (sym c.look-known.ensures.same) free in
    let fed = subst (λ port. g.P.Feed.fed port c.make_frames.new.feed) c.look-known.ensures.same c.make_frames.ensures.fed.fed in
    let kept_outputs = g.met.P.Port.fed_keeps_outputs c.loop-whole.port c.make_frames.new.feed fed in
    let made = subst (λ port. MakesBits m (says_of c.args.feac) (g.T.Tx.stands_at c.make_frames.new.sender plan) (g.T.Tx.stands_for c.set.new.self) (g.T.Tx.stands_for c.make_frames.new.sender) plan x (x + count * len) c.make_frames.new.frame.bits (g.P.Feed.inputs port) (g.P.Feed.inputs c.make_frames.new.feed)) c.look-known.ensures.same
    (c.in_default.ensures.made x (says_of c.args.feac) place free_now (set.told m set.same)) in
    let drained = g.met.P.Port.drained_keeps_inputs _ _ c.put_all.ensures.drained in
    let unfailed : g.P.Feed.feed_faults c.make_frames.new.feed ≡ g.P.Feed.feed_faults c.loop-whole.port = c.in_default.ensures.fed.unfailed ∙ ap g.P.Feed.feed_faults c.look-known.ensures.same in
    let writes : g.P.Drain.drain_faults c.make_frames.new.feed ≡ g.P.Drain.drain_faults c.args.port.now = kept_outputs.1 ∙ ap (λ (k : ℕ × ℕ). k.1) inv.sends.counts in
    let moved = g.met.P.Port.kept_join _ _ _ (g.met.P.Port.fed_is_kept _ _ fed) (g.met.P.Port.drained_is_kept _ _ c.put_all.ensures.drained) in
    let last : ℕ = n + (count - 1) in
    record {
      kept = g.met.P.Port.kept_join _ _ _ inv.sends.kept moved;
      counts = both_counts (drained.1 ∙ unfailed ∙ ap (λ (k : ℕ × ℕ). k.0) inv.sends.counts) (c.in-Err-put_all.ensures.cause ∙ ap one_more writes);
      does = sending_fails _ _ _ _ _ _ _ _ _ _ _ _ count last c.make_frames.new.frame.bits c.make_frames.new.frame.bits _ _ _ _ _ _ _ _ (g.P.Drain.drain_faults c.args.port.now) (g.P.Drain.drain_faults c.make_frames.new.feed) (g.P.Drain.drain_faults c.put_all.new.self) set.same refl
          drained.0 kept_outputs.0 (omega (arith, some)) (omega (arith, upto, some)) (omega (arith, writes)) set.sending made c.in-Err-put_all.ensures.err (rose_of _ _ c.in-Err-put_all.ensures.cause);
    }

pub loop-whole-preserved : goal.loop-whole-preserved
loop-whole-preserved g c =
    let plan = plan_in c.args.clock.now g.G.SlipLog.takes in
    let inv = c.loop-whole.invariant in
    let n : ℕ = c.loop-whole.whole in
    let len : ℕ = c.args.len in
    let count : ℕ = c.max-count.result in
    let x : ℕ = n * len in
    let some : 0 < count = omega (arith, c.max-count.ensures) in
    let few : count ≤ c.at_once-most.result = omega (arith, c.max-count.ensures, c.min-in-loop-whole.ensures, c.min.ensures, c.at_once-most.ensures.some) in
    let upto : n + count ≤ c.args.frames = omega (arith, c.max-count.ensures, c.min-in-loop-whole.ensures, c.loop-whole-test.true) in
    let alone : IfSome c.args.feac (λ code. count ≡ 1) = alone_of c.args.feac c.at_once-most.result count c.at_once-most.ensures.alone some few in
    let set = is_told g.T.Tx c.args.sender.now c.loop-whole.sender c.set.new.self plan (says_of c.args.feac) len n count _ _ _ _ c.requires.sender.frames inv.same c.set.ensures.meaning (λ n. c.set.ensures.placed plan n) (λ supply n. c.set.ensures.held supply n)
    (said_alike c.args.feac n count (g.T.Tx.says c.set.new.self) (c.set.ensures.says ∙ c.next_service.ensures.says c.args.feac n inv.said) alone) inv.sends.does in
    let place = set.sending.makes.place in
    let m : Meaning = g.T.Tx.meaning c.set.new.self in
    let known = subst (λ (m : Meaning). IsUneventful m plan x (x + c.loop-whole.ahead.clear) (g.P.Feed.inputs c.loop-whole.port)) (sym set.same) inv.ahead in
    let free = c.look-known.ensures.clear x place known in
    let free_now = subst (λ port. IsUneventful m plan x (x + c.look-known.result.clear) (g.P.Feed.inputs port)) (sym c.look-known.ensures.same) free in
    let known_waiting = subst (λ (m : Meaning). IsUneventful m plan x (x + c.loop-whole.ahead.waiting * len) (only_waiting (g.P.Feed.inputs c.loop-whole.port) (g.P.Feed.waits c.loop-whole.port))) (sym set.same) inv.waiting in
    let free_waiting = subst (λ port. IsUneventful m plan x (x + c.look-known.result.waiting * len) (only_waiting (g.P.Feed.inputs port) (g.P.Feed.waits port))) (sym c.look-known.ensures.same) (c.look-known.ensures.waiting x place known_waiting) in
    let fed = subst (λ port. g.P.Feed.fed port c.make_frames.new.feed) c.look-known.ensures.same c.make_frames.ensures.fed.fed in
    let kept_outputs = g.met.P.Port.fed_keeps_outputs c.loop-whole.port c.make_frames.new.feed fed in
    let made = subst (λ port. MakesBits m (says_of c.args.feac) (g.T.Tx.stands_at c.make_frames.new.sender plan) (g.T.Tx.stands_for c.set.new.self) (g.T.Tx.stands_for c.make_frames.new.sender) plan x (x + count * len) c.make_frames.new.frame.bits (g.P.Feed.inputs port) (g.P.Feed.inputs c.make_frames.new.feed)) c.look-known.ensures.same
    (c.in_default.ensures.made x (says_of c.args.feac) place free_now (set.told m set.same)) in
    let start : Meaning = g.T.Tx.meaning c.args.sender.now in
    let next : ℕ = (n + count) * len in
    let ends : x + count * len ≡ next = frames_end n count len in
    let drained = g.met.P.Port.drained_keeps_inputs c.make_frames.new.feed c.put_all.new.self c.put_all.ensures.drained in
    let unfailed : g.P.Feed.feed_faults c.make_frames.new.feed ≡ g.P.Feed.feed_faults c.loop-whole.port = c.in_default.ensures.fed.unfailed ∙ ap g.P.Feed.feed_faults c.look-known.ensures.same in
    let moved = g.met.P.Port.kept_join _ _ _ (g.met.P.Port.fed_is_kept _ _ fed) (g.met.P.Port.drained_is_kept _ _ c.put_all.ensures.drained) in
    let made_next = subst (λ (m : Meaning). MakesBits m (says_of c.args.feac) (g.T.Tx.stands_at c.make_frames.new.sender plan) (g.T.Tx.stands_for c.set.new.self) (g.T.Tx.stands_for c.make_frames.new.sender) plan x next c.make_frames.new.frame.bits (g.P.Feed.inputs c.loop-whole.port) (g.P.Feed.inputs c.make_frames.new.feed)) set.same
    (subst (λ (to : ℕ). MakesBits m (says_of c.args.feac) (g.T.Tx.stands_at c.make_frames.new.sender plan) (g.T.Tx.stands_for c.set.new.self) (g.T.Tx.stands_for c.make_frames.new.sender) plan x to c.make_frames.new.frame.bits (g.P.Feed.inputs c.loop-whole.port) (g.P.Feed.inputs c.make_frames.new.feed)) ends made) in
    let waiting : ℕ = c.look-known.result.waiting in
    let none_left : (waiting - count) * len ≡ 0 → IsUneventful start plan next (next + c.after-ahead.result.waiting * len) (only_waiting (g.P.Feed.inputs c.put_all.new.self) (g.P.Feed.waits c.put_all.new.self)) =
    λ none. free_none start plan next _ _ (omega (arith, none, ap (λ v. v * len) c.after-ahead.ensures.waiting)) in
    let some_left : 0 < waiting → IsUneventful start plan next (next + c.after-ahead.result.waiting * len) (only_waiting (g.P.Feed.inputs c.put_all.new.self) (g.P.Feed.waits c.put_all.new.self)) =
    λ waits.
    let within : count ≤ waiting = omega (arith, waits, c.max-count.ensures, c.min-in-loop-whole.ensures, c.min.ensures, c.at_once-most.ensures.some, c.loop-whole-test.true) in
    let enough = enough_for waiting count len c.look-known.result.clear within (c.look-known.ensures.enough inv.enough) in
    let keeps = c.in_default.ensures.waiting (lt-ltb _ _ waits) enough x (x + waiting * len) place free_waiting in
    let to : x + waiting * len ≡ next + c.after-ahead.result.waiting * len = rest_ends n waiting count len within ∙ ap (λ v. next + v * len) (sym c.after-ahead.ensures.waiting) in
    free_same start plan next _ (only_waiting (g.P.Feed.inputs c.make_frames.new.feed) (g.P.Feed.waits c.make_frames.new.feed)) _ (λ k. g.met.P.Port.drained_keeps_waiting c.make_frames.new.feed c.put_all.new.self c.put_all.ensures.drained k)
    (subst (λ (m : Meaning). IsUneventful m plan next (next + c.after-ahead.result.waiting * len) (only_waiting (g.P.Feed.inputs c.make_frames.new.feed) (g.P.Feed.waits c.make_frames.new.feed))) set.same
    (subst (λ (to : ℕ). IsUneventful m plan next to (only_waiting (g.P.Feed.inputs c.make_frames.new.feed) (g.P.Feed.waits c.make_frames.new.feed))) to
    (subst (λ (from : ℕ). IsUneventful m plan from (x + waiting * len) (only_waiting (g.P.Feed.inputs c.make_frames.new.feed) (g.P.Feed.waits c.make_frames.new.feed))) ends keeps))) in
    record {
      running = c.in_default.ensures.running;
      said = said_upto c.next_service.new.channel c.args.feac n count alone (c.next_service.ensures.said c.args.feac n inv.said);
      same = c.make_frames.ensures.kept.same ∙ set.same;
      room = c.make_frames.ensures.room ∙ inv.room;
      upto = upto;
      ahead = subst (λ (i : Inputs). IsUneventful start plan next (next + c.after-ahead.result.clear) i) (sym drained.0)
          (free_after start (says_of c.args.feac) (g.T.Tx.stands_at c.make_frames.new.sender plan) (g.T.Tx.stands_for c.set.new.self) (g.T.Tx.stands_for c.make_frames.new.sender) plan x next _ c.look-known.result.clear (count * len) _ _ _ made_next (sym ends) (omega (arith, c.after-ahead.ensures.clear))
          (subst (λ (m : Meaning). IsUneventful m plan x (x + c.look-known.result.clear) (g.P.Feed.inputs c.loop-whole.port)) set.same free));
      waiting = elim (cases_lt 0 waiting) [
        | inl waits ↦ some_left waits
        | inr none ↦ let nothing : waiting - count ≡ 0 = omega (arith, none) in none_left (omega (arith, ap (λ v. v * len) nothing))
      ];
      enough = (let left = rest_enough waiting count len c.look-known.result.clear (c.look-known.ensures.enough inv.enough) in omega (arith, left, ap (λ v. v * len) c.after-ahead.ensures.waiting, c.after-ahead.ensures.clear));
      lists = ap (λ i. i.holds) drained.0 ∙ g.met.P.Feed.fed_holds c.loop-whole.port c.make_frames.new.feed fed ∙ inv.lists;
      lines = g.met.P.Drain.drained_holds c.make_frames.new.feed c.put_all.new.self c.put_all.ensures.drained ∙ ap (λ o. o.holds) kept_outputs.0 ∙ inv.lines;
      told =
          subst (λ (n : ℕ). TellsAll g.G.SlipLog c.args.log.now c.make_frames.new.log (slips_over start plan 0 n)) ends
          (front_told g.G.SlipLog (record { nothing = g.met.G.SlipLog.logged_nothing; joins = g.met.G.SlipLog.logged_join; breaks = g.met.G.SlipLog.broken_join }) start m plan x (count * len) set.same _ _ _ inv.told (c.in_default.ensures.told x place free_now).all);
      sends = record {
        kept = g.met.P.Port.kept_join _ _ _ inv.sends.kept moved;
        counts = both_counts (drained.1 ∙ unfailed) (c.in_default-put_all.ensures.cause ∙ kept_outputs.1) ∙ inv.sends.counts;
        does = sending_more _ _ _ _ _ _ _ _ _ _ _ _ c.make_frames.new.frame.bits c.make_frames.new.frame.bits _ _ _ _ _ _ _ _ set.same refl drained.0 kept_outputs.0 ends set.sending made c.in_default-put_all.ensures.ok;
      };
    }

pub returns-clause-sent : goal.returns-clause-sent
returns-clause-sent g c =
    let all : c.loop-whole.whole ≡ c.args.frames = omega (arith, c.loop-whole-test.false, c.loop-whole.invariant.upto) in
    let sends = c.loop-whole.invariant.sends in
    record {
      kept = sends.kept;
      counts = sends.counts;
      does = sending_sends (g.T.Tx.meaning c.args.sender.now) (says_of c.args.feac) _ _ _ (plan_in c.args.clock.now g.G.SlipLog.takes) _ _ _ _ _ _ (ap (λ n. n * c.args.len) all) sends.does;
    }

-- ---- what the log was told

pub returns-in-Err-clause-told : goal.returns-in-Err-clause-told
returns-in-Err-clause-told g c =
    let plan = plan_in c.args.clock.now g.G.SlipLog.takes in
    let inv = c.loop-whole.invariant in
    let n : ℕ = c.loop-whole.whole in
    let len : ℕ = c.args.len in
    let count : ℕ = c.max-count.result in
    let x : ℕ = n * len in
    let some : 0 < count = omega (arith, c.max-count.ensures) in
    let few : count ≤ c.at_once-most.result = omega (arith, c.max-count.ensures, c.min-in-loop-whole.ensures, c.min.ensures, c.at_once-most.ensures.some) in
    let upto : n + count ≤ c.args.frames = omega (arith, c.max-count.ensures, c.min-in-loop-whole.ensures, c.loop-whole-test.true) in
    let alone : IfSome c.args.feac (λ code. count ≡ 1) = alone_of c.args.feac c.at_once-most.result count c.at_once-most.ensures.alone some few in
    let set = is_told g.T.Tx c.args.sender.now c.loop-whole.sender c.set.new.self plan (says_of c.args.feac) len n count _ _ _ _ c.requires.sender.frames inv.same c.set.ensures.meaning (λ n. c.set.ensures.placed plan n) (λ supply n. c.set.ensures.held supply n)
    (said_alike c.args.feac n count (g.T.Tx.says c.set.new.self) (c.set.ensures.says ∙ c.next_service.ensures.says c.args.feac n inv.said) alone) inv.sends.does in
    let place = set.sending.makes.place in
    let m : Meaning = g.T.Tx.meaning c.set.new.self in
    let known = subst (λ (m : Meaning). IsUneventful m plan x (x + c.loop-whole.ahead.clear) (g.P.Feed.inputs c.loop-whole.port)) (sym set.same) inv.ahead in
    let free = c.look-known.ensures.clear x place known in
    let free_now = subst (λ port. IsUneventful m plan x (x + c.look-known.result.clear) (g.P.Feed.inputs port)) (sym c.look-known.ensures.same) free in
    record {
      all = tt;
      front = front_stops g.G.SlipLog (record { nothing = g.met.G.SlipLog.logged_nothing; joins = g.met.G.SlipLog.logged_join; breaks = g.met.G.SlipLog.broken_join }) (g.T.Tx.meaning c.args.sender.now) m plan x (count * len) set.same (c.args.frames * len) _ _ _ _ (frames_within n count c.args.frames len upto)
          inv.told (c.in-Err.ensures.told x place free_now).front;
    }

pub returns-in-Err-put_all-clause-told : goal.returns-in-Err-put_all-clause-told
returns-in-Err-put_all-clause-told g c =
    let plan = plan_in c.args.clock.now g.G.SlipLog.takes in
    let inv = c.loop-whole.invariant in
    let n : ℕ = c.loop-whole.whole in
    let len : ℕ = c.args.len in
    let count : ℕ = c.max-count.result in
    let x : ℕ = n * len in
    let some : 0 < count = omega (arith, c.max-count.ensures) in
    let few : count ≤ c.at_once-most.result = omega (arith, c.max-count.ensures, c.min-in-loop-whole.ensures, c.min.ensures, c.at_once-most.ensures.some) in
    let upto : n + count ≤ c.args.frames = omega (arith, c.max-count.ensures, c.min-in-loop-whole.ensures, c.loop-whole-test.true) in
    let alone : IfSome c.args.feac (λ code. count ≡ 1) = alone_of c.args.feac c.at_once-most.result count c.at_once-most.ensures.alone some few in
    let set = is_told g.T.Tx c.args.sender.now c.loop-whole.sender c.set.new.self plan (says_of c.args.feac) len n count _ _ _ _ c.requires.sender.frames inv.same c.set.ensures.meaning (λ n. c.set.ensures.placed plan n) (λ supply n. c.set.ensures.held supply n)
    (said_alike c.args.feac n count (g.T.Tx.says c.set.new.self) (c.set.ensures.says ∙ c.next_service.ensures.says c.args.feac n inv.said) alone) inv.sends.does in
    let place = set.sending.makes.place in
    let m : Meaning = g.T.Tx.meaning c.set.new.self in
    let known = subst (λ (m : Meaning). IsUneventful m plan x (x + c.loop-whole.ahead.clear) (g.P.Feed.inputs c.loop-whole.port)) (sym set.same) inv.ahead in
    let free = c.look-known.ensures.clear x place known in
    let free_now = subst (λ port. IsUneventful m plan x (x + c.look-known.result.clear) (g.P.Feed.inputs port)) (sym c.look-known.ensures.same) free in
    record {
      all = tt;
      front = port_failed g.G.SlipLog (record { nothing = g.met.G.SlipLog.logged_nothing; joins = g.met.G.SlipLog.logged_join; breaks = g.met.G.SlipLog.broken_join }) (g.T.Tx.meaning c.args.sender.now) plan (x + count * len) (c.args.frames * len) _ _ _ (λ is. cc) (frames_within n count c.args.frames len upto)
          (front_told g.G.SlipLog (record { nothing = g.met.G.SlipLog.logged_nothing; joins = g.met.G.SlipLog.logged_join; breaks = g.met.G.SlipLog.broken_join }) (g.T.Tx.meaning c.args.sender.now) m plan x (count * len) set.same _ _ _ inv.told (c.in_default.ensures.told x place free_now).all);
    }

pub returns-clause-told : goal.returns-clause-told
returns-clause-told g c =
    let all : c.loop-whole.whole ≡ c.args.frames = omega (arith, c.loop-whole-test.false, c.loop-whole.invariant.upto) in
    tells_ok tt (subst (λ (n : ℕ). TellsAll g.G.SlipLog c.args.log.now c.loop-whole.log (slips_over (g.T.Tx.meaning c.args.sender.now) (plan_in c.args.clock.now g.G.SlipLog.takes) 0 (n * c.args.len))) all c.loop-whole.invariant.told)
