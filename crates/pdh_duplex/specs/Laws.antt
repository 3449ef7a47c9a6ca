-- What follows for a session.
use Rattle.std.specs.Prelude.{◌≡◌, ℕ, suc, ◌-◌, Bool, not, [], None, count_by}
use Rattle.std.specs.List.{range_with_len}
use Rattle.pdh_nesting.specs.Events.{first_event}
use Rattle.pdh_watch.specs.declared.kind.TheConstants.Kind.{ALARM_ON, FEBE}
use Rattle.pdh_telling.specs.Top.{is_of_top}
use Rattle.pdh_telling.specs.Saying.{alarm_begins}
use Rattle.pdh_script.specs.Scripts.{disturbed}
use Rattle.pdh_chain.specs.Chains.{shapes_of}
use Rattle.pdh_chain.specs.Demuxes.{top_delivered}
use Rattle.pdh_chain.specs.declared.chain.Chain.{Chain}
use Rattle.pdh_chain.specs.declared.chain.Chain.TheVariants.{C13}
use Rattle.pdh_patterns.specs.Leaves.{made_counts}
use Rattle.pdh_duplex.specs.Session.{Setting, End, Ends, ends_after, ends_of, events_of, line_upto}
use Rattle.pdh_duplex.specs.Top.{is_aligned}

-- each end has received the other's line as its script disturbs it; where there is no tick, nothing
pub record ReceivesDisturbed (z : Setting) : Type 0 where
  pub east : (z.frames ≡ 0 → ⊥) → (ends_of z).east.heard.got ≡ disturbed (line_upto z (ends_of z).west.says z.frames) z.to_east
  pub west : (z.frames ≡ 0 → ⊥) → (ends_of z).west.heard.got ≡ disturbed (line_upto z (ends_of z).east.says z.frames) z.to_west

-- an end whose line no rows disturb delivers all its frames
pub record DeliversUndisturbed (z : Setting) : Type 0 where
  pub east : z.to_east ≡ [] → top_delivered (shapes_of z.chain) (ends_of z).east.heard.got ≡ z.frames
  pub west : z.to_west ≡ [] → top_delivered (shapes_of z.chain) (ends_of z).west.heard.got ≡ z.frames

-- an end's alarm of frame n: what it got in the ticks before tick n doesn't end in open frames
abbrev pub has_alarm : Setting → (Ends → End) → ℕ → Bool
has_alarm z end n = not (is_aligned (shapes_of z.chain) (end (ends_after z n)).heard.got)

-- tick n is an error tick of an end
abbrev pub is_error_tick : Setting → (Ends → End) → ℕ → Bool
is_error_tick z end n = (end (ends_after z (suc n))).heard.in_error

-- the far end block errors that a chain's frames tell of so many: C-bit parity alone has bits for them
abbrev pub block_errors_in : Chain → ℕ → ℕ
block_errors_in C13 errors = errors
block_errors_in chain errors = 0

-- an end is told of the far end's alarms, as often as one begins, and of its error ticks, but for one in the last tick
pub record IsTold (z : Setting) (near far : Ends → End) : Type 0 where
  pub alarms : count_by (is_of_top ALARM_ON) (events_of z (near (ends_of z))) ≡ count_by (alarm_begins (has_alarm z far)) (range_with_len 0 z.frames)
  pub block_errors : count_by (is_of_top FEBE) (events_of z (near (ends_of z))) ≡ block_errors_in z.chain (count_by (is_error_tick z far) (range_with_len 0 (z.frames - 1)))

-- so is each end whose line no rows disturb
pub record TellsUndisturbed (z : Setting) : Type 0 where
  pub east : z.to_east ≡ [] → IsTold z (λ ends. ends.east) (λ ends. ends.west)
  pub west : z.to_west ≡ [] → IsTold z (λ ends. ends.west) (λ ends. ends.east)

-- no store of either end overflows or underflows
abbrev pub HasNoEvent : Setting → Type 0
HasNoEvent z = first_event (shapes_of z.chain) (made_counts z.chain z.frames) z.frames ≡ None
