use Rattle.std.proofs.Common.{◌≡◌, ◌+◌, ◌-◌, take, drop}
use Rattle.std.specs.Prelude.{min}
use Rattle.pdh_e1_judging.specs.Judged.{with_multiframes}
use Rattle.pdh_e1_judging.proofs.PushLaws.{delivered_by}
use Rattle.pdh_e1_judging.proofs.judge.Judging.push.Given as goal

-- so many of the delivered multiframes were judged, but for those that confirm
abbrev pub invariant-loop-number : goal.invariant-loop-number
invariant-loop-number l = record {
  align : l.self.align ≡ l.initial.self.align;
  came : l.self.came ≡ min 2 (l.initial.self.came + l.number);
  judged : l.self.judged ≡ with_multiframes l.initial.self.judged (drop (2 - l.initial.self.came) (take l.number (delivered_by l.fn.self.align l.line.bits l.place)));
}
