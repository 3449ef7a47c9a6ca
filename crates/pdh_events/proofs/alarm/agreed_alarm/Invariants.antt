use Rattle.std.proofs.Common.{◌≡◌, not, map, take}
use Rattle.std.specs.List.{list_any}
use Rattle.pdh_events.specs.Keeping.{says_alarm}
use Rattle.pdh_events.proofs.alarm.agreed_alarm.Given as goal

-- what the slots so far say
abbrev pub invariant-loop-of : goal.invariant-loop-of
invariant-loop-of l = record {
  say : l.some_say ≡ list_any (λ says. says) (map (says_alarm l.frame.bits) (take l.of-index l.slots));
  deny : l.some_deny ≡ list_any not (map (says_alarm l.frame.bits) (take l.of-index l.slots));
}
