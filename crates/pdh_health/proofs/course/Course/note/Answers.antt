use Rattle.std.proofs.Common.{◌++◌, [], sym, ◌∙◌, refl}
use Rattle.std.proofs.lemmas.List.{append-nil}
use Rattle.pdh_health.specs.declared.sign.Sign.TheVariants.{Begin, End, Block, Told, Coded, Other}
use Rattle.pdh_health.specs.Marking.{code_by}
use Rattle.pdh_health.proofs.Coursing.{goes_nowhere, with_marks, noted, noted_mark}
use Rattle.pdh_health.proofs.course.Course.note.Goals as goal

pub returns-in-Begin : goal.returns-in-Begin
returns-in-Begin c = noted_mark _ _ c.args.placed.now (Begin c.in-Begin.state) (sym c.sign_of.ensures ∙ c.in-Begin.is) refl c.begin.ensures

pub returns-in-End : goal.returns-in-End
returns-in-End c = noted_mark _ _ c.args.placed.now (End c.in-End.state) (sym c.sign_of.ensures ∙ c.in-End.is) refl c.end.ensures

pub returns-in-Block : goal.returns-in-Block
returns-in-Block c = noted_mark _ _ c.args.placed.now Block (sym c.sign_of.ensures ∙ c.in-Block.is) refl c.errored.ensures

pub returns-in-Told : goal.returns-in-Told
returns-in-Told c = noted_mark _ _ c.args.placed.now Told (sym c.sign_of.ensures ∙ c.in-Told.is) refl c.told.ensures

pub returns-in-Coded : goal.returns-in-Coded
returns-in-Coded c =
    let placed = c.args.placed.now in
    noted _ _ placed Coded (sym c.sign_of.ensures ∙ c.in-Coded.is)
    (with_marks _ _ placed.place (λ marks. marks ++ []) (λ marks. marks) (λ codes. codes ++ code_by Coded placed) (λ marks. sym (append-nil marks)) c.coded.ensures)

pub returns-in-Other : goal.returns-in-Other
returns-in-Other c =
    let placed = c.args.placed.now in
    let course = c.args.self.now in
    noted_mark _ _ placed Other (sym c.sign_of.ensures ∙ c.in-Other.is) refl
    (with_marks course course placed.place (λ marks. marks ++ []) (λ marks. marks) (λ codes. codes) (λ marks. sym (append-nil marks)) (goes_nowhere course placed.place))
