use Rattle.std.proofs.Common.{◌≡◌, ℕ, refl, ap, sym, ◌∙◌, subst}
use Rattle.pdh_nesting.specs.Chains.{top_len}
use Rattle.pdh_chain.specs.Chains.{shapes_of}
use Rattle.pdh_duplex.specs.Answers.{setting_of}
use Rattle.pdh_duplex.specs.Links.{HaveHeard, IsReady}
use Rattle.pdh_duplex.specs.Session.{Setting, ends_of, events_of}
use Rattle.pdh_duplex.proofs.Going.{first_link}
use Rattle.pdh_duplex.proofs.linking.Terminals.session_with.Goals as goal

pub run-requires-clause-ready : goal.run-requires-clause-ready
run-requires-clause-ready g c =
    let z : Setting = setting_of c.args.chain c.args.self in
    let opened = c.in-Ok.ensures in
    let clock = c.in-Ok.opened.clock in
    let len : c.LEN.result ≡ top_len (shapes_of z.chain) = c.LEN.ensures ∙ sym g.met.T.ChainTop.len_is ∙ ap top_len c.requires.types.sends_are in
    let ready : IsReady z clock c.LEN.result c.args.self.frames = record { clock_is = opened.clock_is; few = c.requires.setting.few; len_is = len; frames_are = refl } in
    (z, c.args.self.west, c.args.self.east, ready, first_link g.T.Tx g.R.Rx g.W.Watch g.E.Watch z clock c.args.self.west c.args.self.east _ (c.with_watch.ensures z clock z.to_east opened.east_is) (c.with_watch-2.ensures z clock z.to_west opened.west_is))

pub returns : goal.returns
returns g c =
    let z : Setting = setting_of c.args.chain c.args.self in
    let west = c.args.self.west in
    let east = c.args.self.east in
    let opened = c.in-Ok.ensures in
    let clock = c.in-Ok.opened.clock in
    let frames : ℕ = c.args.self.frames in
    let len : c.LEN.result ≡ top_len (shapes_of z.chain) = c.LEN.ensures ∙ sym g.met.T.ChainTop.len_is ∙ ap top_len c.requires.types.sends_are in
    let ready : IsReady z clock c.LEN.result frames = record { clock_is = opened.clock_is; few = c.requires.setting.few; len_is = len; frames_are = refl } in
    let link = first_link g.T.Tx g.R.Rx g.W.Watch g.E.Watch z clock west east (record { to_east = c.with_watch.result; to_west = c.with_watch-2.result }) (c.with_watch.ensures z clock z.to_east opened.east_is) (c.with_watch-2.ensures z clock z.to_west opened.west_is) in
    let ran = c.run.ensures.ran z west east ready link in
    let heard : HaveHeard g.R.Rx g.W.Watch g.E.Watch z frames west east c.run.new.self = record { east_is = ran.east_is.has_heard; west_is = ran.west_is.has_heard } in
    record {
      session_is = c.counts-session.ensures z frames west east heard;
      west_saw = subst (λ now. g.W.Watch.saw west (events_of z (ends_of z).west) now) (sym c.into_watch.ensures) heard.west_is.saw;
      east_saw = subst (λ now. g.E.Watch.saw east (events_of z (ends_of z).east) now) (sym c.into_watch-2.ensures) heard.east_is.saw;
      unseen = tt;
    }
