-- One tributary that passes its bits of a piece.
use Rattle.std.proofs.Common.{◌≡◌, ◌≤◌, ◌+◌, ℕ, List, refl, sym, ap, ◌∙◌, subst, arith, Some, slice_get}
use Rattle.std.proofs.lemmas.Option.{slice_get-map}
use Rattle.pdh_shape.specs.declared.shape.Shape as shape
use Rattle.pdh_shape.specs.Frame.{FrameShape, IsFrame}
use Rattle.pdh_shape.specs.Tributary.{reads_from, reads_below}
use Rattle.pdh_line.specs.Edits.{Edit}
use Rattle.pdh_line.specs.Sending.{Carriage, arrived_in}
use Rattle.pdh_runs.proofs.Counts.{before_grows}
use Rattle.pdh_tx.specs.declared.tx.Tx.{Ghosts}
use Rattle.pdh_tx.specs.declared.pieces.Piece.{Piece}
use Rattle.pdh_tx.specs.declared.tributaries.Tributaries.{Tributaries}
use Rattle.pdh_tx.specs.declared.tributary.Tributary.{Tributary}
use Rattle.pdh_tx.specs.Meaning.{Plan}
use Rattle.pdh_tx.specs.Held.{Readout, with_read, gone_with, put_with}
use Rattle.pdh_tx.specs.Tributary.{placed_in, meaning_in}
use Rattle.pdh_tx.specs.Slipping.{carriage_in, read_to}
use Rattle.pdh_tx.specs.Node.{IsShare, came_at}
use Rattle.pdh_tx.specs.Passing.{edits_by, carried_in}
use Rattle.pdh_tx.specs.Tributaries.{meanings, HaveDecided, HavePassed}
use Rattle.pdh_tx.proofs.Advancing.{upto_here}
use Rattle.pdh_tx.proofs.PassingAll.{arrived_most}
use Rattle.pdh_tx.proofs.SlipSteps.{gone-more, put-more}

-- what a piece leaves of tributary i, whose store no slip changes, where so many bits of its child come in it
pub record IsLeft (s : FrameShape) (plan : Plan) (at : Piece) (i carried arriving : ℕ) : Type 0 where
  pub out : with_read carried (read_to s at.path plan at.frame at.slot i) ≡ read_to s at.path plan at.frame (at.slot + at.len) i
  pub gone : (let was = read_to s at.path plan at.frame at.slot i in let now = read_to s at.path plan at.frame (at.slot + at.len) i in gone_with now.edits now.read ≡ gone_with was.edits was.read + carried)
  pub put : (let was = read_to s at.path plan at.frame at.slot i in let now = read_to s at.path plan at.frame (at.slot + at.len) i in
      put_with now.edits (came_at s at.path plan at.frame (at.slot + at.len) i) ≡ put_with was.edits (came_at s at.path plan at.frame at.slot i) + arriving)

module _ {S C : Type 0} {shape : shape.Ghosts S} {tx : Ghosts C} where
  -- the next tributary, into which so many bits of its child come
  pub record IsNext (ts : Tributaries S C shape tx) (plan : Plan) (at : Piece) (i : ℕ) (w : Tributary C) (arriving : ℕ) : Type 0 where
    pub maker : slice_get (meanings ts) i ≡ Some (meaning_in tx w)
    pub share : IsShare plan.mode shape.shape i (plan.counts at.path i) at.frame w.share
    pub was : placed_in tx w plan (came_at shape.shape at.path plan at.frame at.slot i) (read_to shape.shape at.path plan at.frame at.slot i)
    pub came : came_at shape.shape at.path plan at.frame at.slot i + arriving ≡ came_at shape.shape at.path plan at.frame (at.slot + at.len) i
    pub left : edits_by shape.shape at.path plan at.frame (at.slot + at.len) i ≡ edits_by shape.shape at.path plan at.frame at.slot i → IsLeft shape.shape plan at i (carried_in shape.shape i w.share.more at.slot at.len) arriving
    pub few : arriving ≤ shape.shape.len

  pub next_one : (frame : IsFrame shape.shape) (ts : Tributaries S C shape tx) (plan : Plan) (at : Piece) (i : ℕ) (w : Tributary C) (arriving : ℕ) → slice_get ts.list.items i ≡ Some w → at.slot + at.len ≤ shape.shape.len
      → HaveDecided ts at.path plan at.frame → HavePassed ts plan at i → arrived_in shape.shape w.share.arriving at.slot + arriving ≡ arrived_in shape.shape w.share.arriving (at.slot + at.len) → IsNext ts plan at i w arriving
  next_one frame ts plan at i w arriving here inside decided passed arrives =
      let s : FrameShape = shape.shape in
      let n : ℕ = at.frame in
      let t : ℕ = at.slot in
      let u : ℕ = at.slot + at.len in
      let counts : ℕ → ℕ = plan.counts at.path i in
      let c : Carriage = carriage_in s at.path plan i in
      let f : ℕ → ℕ = came_at s at.path plan n t in
      let f' : ℕ → ℕ = came_at s at.path plan n u in
      let h : ℕ → Readout = read_to s at.path plan n t in
      let h' : ℕ → Readout = read_to s at.path plan n u in
      let share = decided i w here in
      let more = w.share.more in
      let carried : ℕ = carried_in s i more t at.len in
      let P : ℕ → Type 0 = λ k. arrived_in s k t + arriving ≡ arrived_in s k u in
      let brings : P (counts n) = subst P share.arriving arrives in
      let Q : ℕ → Type 0 = λ k. placed_in tx w plan k (h i) in
      let R : Readout → Type 0 = λ out. placed_in tx w plan (Rattle.pdh_tx.specs.Passing.up_to f f' i i) out in
      let below_t : reads_below s i more t ≡ reads_below s i (c.more n) t = ap (λ b. reads_below s i b t) share.more in
      let below_u : reads_below s i more u ≡ reads_below s i (c.more n) u = ap (λ b. reads_below s i b u) share.more in
      let grows = before_grows (λ x. reads_from i (c.more n) (s.role x)) t u (omega arith) in
      let reads : (h i).read + carried ≡ (h' i).read = omega (arith, grows, below_t, below_u) in
      let comes : f i + arriving ≡ f' i = omega (arith, brings) in
      record {
        maker = slice_get-map (meaning_in tx) ts.list.items i ∙ rw here refl;
        share = share;
        was = subst Q (upto_here f f' i) (subst R (upto_here h h' i) (passed i w here));
        came = comes;
        left = λ same. record {
          out = ap (λ (r : ℕ). record { read = r; edits = (h i).edits }) reads ∙ ap (λ (e : List Edit). record { read = (h' i).read; edits = e }) (sym same);
          gone = ap (λ (e : List Edit). gone_with e (h' i).read) same ∙ ap (gone_with (h i).edits) (sym reads) ∙ gone-more (h i).edits (h i).read carried;
          put = ap (λ (e : List Edit). put_with e (f' i)) same ∙ ap (put_with (h i).edits) (sym comes) ∙ put-more (h i).edits (f i) arriving;
        };
        few = omega (arith, arrived_most s (counts n) u frame inside, brings, share.fits);
      }
