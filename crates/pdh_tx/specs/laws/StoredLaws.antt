-- What the multiplexers with stores have of all multiplexers.
use Rattle.std.proofs.Common.{◌≡◌, ℕ, suc, ◌<◌, ◌^◌, List, length, map, sym, subst, ◌∙◌}
use Rattle.std.proofs.lemmas.List.{length-map}
use Rattle.pdh_line.specs.Sending.{HasStores}
use Rattle.pdh_tx.specs.declared.tx.Tx.{Ghosts}
use Rattle.pdh_tx.specs.declared.tributary.Tributary.{Tributary}
use Rattle.pdh_tx.specs.Tributary.{meaning_in}
use Rattle.pdh_shape.specs.declared.place.Path.{Path}
use Rattle.pdh_shape.specs.Frame.{FrameShape, IsFrame}
use Rattle.pdh_shape.specs.Tributary.{HasTributaries}
use Rattle.pdh_tx.specs.declared.tributary.FrameShare.{FrameShare}
use Rattle.pdh_tx.specs.Meaning.{Plan, Supply}
use Rattle.pdh_tx.specs.Held.{Readout}
use Rattle.pdh_tx.specs.Node.{IsDecided}
use Rattle.pdh_tx.specs.Slipping.{read_to}
use Rattle.pdh_tx.specs.Body.{IsKind}
use Rattle.pdh_tx.specs.Stored.{stored_kind, Before, Through, HoldBefore, HoldThrough}
use Rattle.pdh_tx.specs.Follows.{Follows}
use Rattle.pdh_tx.specs.laws.Stepping.{taken_is, came_follows, read_follows}
use Rattle.pdh_tx.specs.laws.Each.{each_now}

pub stored_is : (s : FrameShape) → IsFrame s → IsKind s (stored_kind s)
stored_is s frame = record {
  taken_is = λ path plan n t x j place within. taken_is s n t x place within path plan j;
  taken_next = λ path plan n t n' t' j follows known. came_follows s n t n' t' follows path plan j frame;
}

module _ {W : Type 0} (placed : W → Plan → ℕ → Readout → Type 0) (held : W → Supply → ℕ → Readout → Type 0) (share : W → FrameShare) (s : FrameShape) (frame : IsFrame s) (stores : HasStores s) (has : HasTributaries s) (path : Path) (plan : Plan)
    (ws : List W) (long : length ws ≡ s.tribs) (n t n' t' : ℕ) (follows : Follows s n t n' t') where
  pub stored_next : Through placed held share s path plan (read_to s path plan) ws n (suc t) → Before placed held share s path plan (read_to s path plan) ws n' t'
  stored_next made = record {
    made = each_now (λ w. placed w plan) ws s.tribs long _ _ _ _ (λ j known. came_follows s n t n' t' follows path plan j frame) (λ j known. read_follows s n t n' t' follows path plan j stores has known) made.made;
    decided = λ h. subst (λ v. IsDecided share s path plan v ws) (sym (follows.within h).0) made.decided;
    scheduled = λ h. subst (λ v. v < plan.frames path) (sym (follows.within h).0) made.scheduled;
    bounded = λ h. subst (λ v. suc v < 2 ^ 64) (sym (follows.within h).0) made.bounded;
  }

  pub stored_holds : (supply : Supply) → HoldThrough placed held share s path plan (read_to s path plan) ws n (suc t) supply → HoldBefore placed held share s path plan (read_to s path plan) ws n' t' supply
  stored_holds supply made = each_now (λ w. held w _) ws s.tribs long _ _ _ _ (λ j known. came_follows s n t n' t' follows path plan j frame) (λ j known. read_follows s n t n' t' follows path plan j stores has known) made

-- there is one for each tributary of the shape
pub stored_long : {T : Type 0} (ws : List T) (tribs TRIBS : ℕ) → tribs ≡ TRIBS → length ws ≡ TRIBS → length ws ≡ tribs
stored_long ws tribs TRIBS is count = count ∙ sym is

pub stored_count : {C : Type 0} (tx : Ghosts C) (s : FrameShape) (ws : List (Tributary C)) (TRIBS : ℕ) → s.tribs ≡ TRIBS → length ws ≡ TRIBS → length (map (meaning_in tx) ws) ≡ s.tribs
stored_count tx s ws TRIBS is count = length-map ws (meaning_in tx) ∙ stored_long ws s.tribs TRIBS is count
