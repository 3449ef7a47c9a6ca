use Rattle.std.proofs.Common.{◌≡◌, List, Bool, sym, ap, ◌∙◌, subst}
use Rattle.std.specs.Prelude.{Option, Some, ℕ}
use Rattle.pdh_watch.specs.declared.kind.Kind.{Kind}
use Rattle.pdh_line.specs.Paths.{top}
use Rattle.pdh_line.specs.Tracking.Piece.{Delivered}
use Rattle.pdh_events.specs.Telling.{tell}
use Rattle.pdh_ds1.specs.Receiving.{judgement}
use Rattle.pdh_ds1_events.specs.Events.{crc_kinds}
use Rattle.pdh_ds1_events.proofs.CheckLaws.{shows_nothing, shows_error}
use Rattle.pdh_ds1_events.proofs.checker.note_checked.Goals as goal

-- what it shows behind one with this word
shown : (superframe : List Bool) (before : Option ℕ) (word : ℕ) → before ≡ Some word → crc_kinds (judgement (Delivered superframe) before) ≡ crc_kinds (judgement (Delivered superframe) (Some word))
shown superframe before word is = ap (λ w. crc_kinds (judgement (Delivered superframe) w)) is

pub returns-then-carried-word : goal.returns-then-carried-word
returns-then-carried-word g c superframe is =
    subst (λ (k : List Kind). g.W.Watch.saw c.args.watch.now (tell top c.args.number k) c.args.watch.now) (sym (shown superframe c.args.before c.in-Some.word c.in-Some.is ∙ shows_nothing superframe c.args.carried c.in-Some.word is c.if-carried-word.true)) (g.met.W.Watch.saw_nothing _)

pub returns : goal.returns
returns g c superframe is =
    subst (λ (k : List Kind). g.W.Watch.saw c.args.watch.now (tell top c.args.number k) c.note_kind.new.watch) (sym (shown superframe c.args.before c.in-Some.word c.in-Some.is ∙ shows_error superframe c.args.carried c.in-Some.word is c.if-carried-word.false)) c.note_kind.ensures
