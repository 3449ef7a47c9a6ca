use Rattle.std.proofs.Common.{ap, map, sym, ◌∙◌}
use Rattle.pdh_answers.proofs.Lines.{on_err_map}
use Rattle.pdh_duplex.specs.Session.{setting_with}
use Rattle.pdh_linking.proofs.SessionWatched.{seen_each}
use Rattle.pdh_linking.proofs.duplexing.watched_session.Goals as goal

pub returns-clause-seen : goal.returns-clause-seen
returns-clause-seen g c =
    let state = g.M.Monitor.state in
    let scripts = c.args.scripts.now in
    seen_each c.duplex-done.result.session (setting_with c.args.chain c.args.seed c.args.frames scripts.to_east scripts.to_west) (map state c.args.monitors.now.items) (map state c.into_list.result.items) _ _ _ _
    (ap (λ l. map state l.items) (c.new-members.ensures.list ∙ c.replace.ensures.value)) (ap (λ l. map state l.items) (sym c.into_list.ensures)) c.duplex-done.ensures.west_saw

pub returns-clause-unseen : goal.returns-clause-unseen
returns-clause-unseen g c =
    on_err_map c.duplex-done.result.session
    (λ same. ap (λ l. map g.M.Monitor.state l.items) (c.into_list.ensures ∙ ap (λ m. m.list) same.0 ∙ c.new-members.ensures.list ∙ c.replace.ensures.value)) c.duplex-done.ensures.unseen
