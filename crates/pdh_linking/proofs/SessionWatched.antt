-- What `duplex` does where no step refuses, and what the monitors see.
use Rattle.std.proofs.Common.{◌≡◌, ℕ, List, Result, Ok, Err, IfOk, refl, ap, sym, subst, ◌∙◌}
use Rattle.pdh_edge.specs.Files.{ShelfState, Looks}
use Rattle.pdh_watch.specs.Monitors.{State, SawEach, SawAll}
use Rattle.pdh_chain.specs.declared.chain.Chain.{Chain}
use Rattle.pdh_duplex.specs.Session.{Setting, setting_with, ends_of, events_of, session_of}
use Rattle.pdh_duplex.specs.declared.session.Session.{Session}
use Rattle.pdh_answers.specs.declared.answer.Done.{Done}
use Rattle.pdh_answers.specs.declared.file.File.TheVariants.{East}
use Rattle.pdh_runner.specs.Performing.{Performs, IsWatched}
use Rattle.pdh_runner.proofs.Causes.{did}
use Rattle.pdh_runner.proofs.Refusing.{of_inputs_before}
use Rattle.pdh_linking.specs.Duplex.{linked, west_events, duplex_says, rows_in, setting_in, duplexing}
use Rattle.pdh_linking.specs.DuplexSteps.{AreScripts}
use Rattle.pdh_linking.specs.declared.duplexing.Scripts.{Scripts}
use Rattle.pdh_linking.proofs.SessionComes.{both_come, rows_found}

-- ---- the monitors

-- where a session is told, they saw the events of the west terminal, as their list was lent and handed back
pub seen_each : {T E : Type 0} (told : Result T E) (z : Setting) (old new lent back : List State) (before after : ℕ) → lent ≡ old → back ≡ new → IfOk told (λ x. SawAll lent before (events_of z (ends_of z).west) back after) → IfOk told (λ x. SawEach old (west_events z) new)
unfolding west_events
seen_each (Ok x) z old new lent back before after first last saw =
    subst (λ old. SawEach old (events_of z (ends_of z).west) new) first (subst (λ new. SawEach lent (events_of z (ends_of z).west) new) last saw.each)
seen_each (Err e) z old new lent back before after first last saw = tt

-- ---- the command

-- the session that is told is what the command comes to
linked_is : (z : Setting) (session : Session) → session ≡ session_of z → Ok (duplex_says z.chain z.seed z.frames session) ≡ linked z
unfolding linked
linked_is z session is = ap (λ session. Ok (duplex_says z.chain z.seed z.frames session)) is

module _ (chain : Chain) (seed frames : ℕ) (a b : ShelfState) (scripts : Scripts) (looks : Looks a b) (same : b.counts ≡ a.counts) (are : AreScripts chain frames scripts b) where
  pub session_done : (session : Session) → session ≡ session_of (setting_with chain seed frames scripts.to_east scripts.to_west) → Performs (duplexing chain seed frames) a b (Ok (duplex_says chain seed frames session))
  session_done session is = did (duplexing chain seed frames) a b (duplex_says chain seed frames session) refl looks same
      (of_inputs_before (duplexing chain seed frames) (λ files. Ok (duplex_says chain seed frames session) ≡ (duplexing chain seed frames).comes_to files) a b looks
      (λ files told. linked_is (setting_with chain seed frames scripts.to_east scripts.to_west) session is ∙ sym (both_come chain seed frames b scripts files are told)))

  pub session_watched : (done : Done) (before after : List State) → SawEach before (west_events (setting_with chain seed frames scripts.to_east scripts.to_west)) after → IsWatched (duplexing chain seed frames) a b (Ok done) before after
  session_watched done before after saw = (
    west_events (setting_with chain seed frames scripts.to_east scripts.to_west),
    saw,
    of_inputs_before (duplexing chain seed frames) (λ files. west_events (setting_with chain seed frames scripts.to_east scripts.to_west) ≡ west_events (setting_in chain seed frames files)) a b looks
        (λ files told.
        let found = rows_found chain seed frames b scripts files are told in
        sym (ap (λ rows. west_events (setting_with chain seed frames rows (rows_in chain frames East files))) found.0 ∙ ap (λ rows. west_events (setting_with chain seed frames scripts.to_east rows)) found.1)),
  )
