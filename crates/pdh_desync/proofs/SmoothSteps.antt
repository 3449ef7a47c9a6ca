-- One more received bit, and more, of a node of far stores.
use Rattle.std.proofs.Common.{◌≡◌, ℕ, zero, suc, ◌+◌, ◌-◌, ◌*◌, ◌/◌, ◌<◌, ◌≤◌, Bool, true, false, cond, List, [], ◌∷◌, ◌++◌, length, map, take, drop, get_or, replicate, slice_get, Some, refl, sym, ap, subst, ◌∙◌, arith, length-drop}
use Rattle.std.specs.Prelude.{flat_map}
use Rattle.std.specs.List.{range_with_len}
use Rattle.std.proofs.lemmas.List.{append-nil, take_more, length-replicate, replicate-append-replicate, get_or-drop, drop-drop}
use Rattle.std.proofs.lemmas.Grind.{flat_map-append}
use Rattle.std.proofs.lemmas.Option.{same_Some}
use Rattle.std.proofs.Math.Nat.{suc-mul, zero-div}
use Rattle.std.proofs.Math.Seq.{take-add}
use Rattle.pdh_edge.specs.Ports.{Outputs, IsPrefix}
use Rattle.pdh_shape.specs.declared.place.Path.{Path}
use Rattle.pdh_shape.specs.Frame.{FrameShape, IsFrame}
use Rattle.pdh_shape.specs.OwnNumbers.{threshold}
use Rattle.pdh_line.specs.Tracking.{Piece, track}
use Rattle.pdh_line.specs.Tracking.Piece.{Gap, Delivered}
use Rattle.pdh_line.specs.Receiving.{piece_bits, received}
use Rattle.pdh_align.specs.declared.step.Step.{Step}
use Rattle.pdh_align.specs.Aligning.{Held as AlignerHeld, StandsFor, Tracks, Waits, Passes}
use Rattle.pdh_rx.specs.Meaning.{Meaning, Gains, GainsPart, TakesBits}
use Rattle.pdh_rx.specs.Node.{got_by, gap_after, frames_after, step_bits, Gives, NodeTracks}
use Rattle.pdh_rx.proofs.Gains.{gains_nothing}
use Rattle.pdh_rx.proofs.NodeSteps.{node_tracks, tracks_taken, node_waits, node_passed, track_none, opened}
use Rattle.pdh_desync.specs.declared.leaves.Leaves.{Leaves}
use Rattle.pdh_desync.specs.FarStore.{FarPiece, far_pieces, pieces_of, reads_more, smooth, marks}
use Rattle.pdh_desync.specs.FarStore.FarPiece.{Ones}
use Rattle.pdh_desync.specs.Held.{Held, fresh_store}
use Rattle.pdh_desync.specs.States.{Stores, FarState}
use Rattle.pdh_desync.specs.FarHolds.{smooth_of, marks_of, FarHolds}
use Rattle.pdh_desync.specs.Smooth.{is_from, mute_meaning, smooth_meaning}
use Rattle.pdh_desync.specs.FarNode.{far_bits, bits_of, far_got, far_steps, quiet, FarGives, FarGivesPart, SmoothStands, far_meaning, AreReady, IsReady, KeepsPlace}
use Rattle.pdh_desync.specs.laws.PieceSteps.{far_step, far_passed, pieces_are}
use Rattle.pdh_desync.proofs.FarGiving.{far_below, far_each_same}

-- ---- what the leaves have got

gap_bits : (s : FrameShape) (j q : ℕ) → replicate (q * s.low) true ≡ bits_of s j (replicate q Ones)
gap_bits s j zero = (let none : 0 * s.low ≡ 0 = omega arith in ap (λ n. replicate n true) none)
gap_bits s j (suc q) =
    let e : suc q * s.low ≡ s.low + q * s.low = omega (arith, suc-mul q s.low) in
    ap (λ n. replicate n true) e ∙ sym (replicate-append-replicate s.low (q * s.low) true) ∙ ap (λ v. replicate s.low true ++ v) (gap_bits s j q)

piece_is : (s : FrameShape) (j : ℕ) (piece : Piece) → piece_bits s j piece ≡ bits_of s j (far_pieces s piece)
unfolding piece_bits
piece_is s j (Gap n) = gap_bits s j (n / s.len)
piece_is s j (Delivered frame) = sym (append-nil _)

received_bits : (s : FrameShape) (j : ℕ) (line : List Bool) → received s j line ≡ bits_of s j (pieces_of s line)
unfolding received
received_bits s j line = go (track s line) ∙ sym (ap (bits_of s j) (pieces_are s line))
  where
    go : (pieces : List Piece) → flat_map (piece_bits s j) pieces ≡ bits_of s j (flat_map (far_pieces s) pieces)
    go [] = refl
    go (p ∷ rest) =
        ap (λ v. v ++ flat_map (piece_bits s j) rest) (piece_is s j p) ∙ ap (λ v. bits_of s j (far_pieces s p) ++ v) (go rest)
        ∙ sym (flat_map-append (far_bits s j) (far_pieces s p) (flat_map (far_pieces s) rest))

smooth_is : (s : FrameShape) (j : ℕ) (line : List Bool) → smooth s j line ≡ smooth_of s j (pieces_of s line) (bits_of s j (pieces_of s line))
unfolding smooth
smooth_is s j line = ap (smooth_of s j (pieces_of s line)) (received_bits s j line)

marks_is : (s : FrameShape) (j : ℕ) (line : List Bool) → marks s j line ≡ marks_of s j (pieces_of s line)
unfolding marks
marks_is s j line = refl

-- what they have got is told by the line's pieces
got_is : (s : FrameShape) (state : FarState) (line : List Bool) (k : ℕ) → (far_meaning s state).got line k ≡ far_got s state.stores.leaves (λ j. pieces_of s line) k
got_is s state line k =
    let first : ℕ = state.stores.leaves.first in
    let marks_from : ℕ = state.stores.leaves.marks in
    let a : Bool = is_from first s.tribs k in
    let b : Bool = is_from marks_from s.tribs k in
    ap (λ v. cond a v (cond b (marks s (k - marks_from) line) [])) (smooth_is s (k - first) line)
    ∙ ap (λ v. cond a (smooth_of s (k - first) (pieces_of s line) (bits_of s (k - first) (pieces_of s line))) (cond b v [])) (marks_is s (k - marks_from) line)

-- what a line's pieces tell of two lines is what the leaves have got by them
gains_of : (s : FrameShape) (state : FarState) (line after : List Bool) (more : List FarPiece) (o p : Outputs) → pieces_of s after ≡ pieces_of s line ++ more
    → Gains (far_got s state.stores.leaves (λ j. pieces_of s line)) (far_got s state.stores.leaves (λ j. pieces_of s line ++ more)) o p → Gains ((far_meaning s state).got line) ((far_meaning s state).got after) o p
gains_of s state line after more o p is g = record {
  more = g.more;
  gained = λ k.
      got_is s state after k ∙ far_below s state.stores.leaves (λ j. pieces_of s after) (λ j. pieces_of s line ++ more) (λ j lt. is) k ∙ g.gained k
      ∙ ap (λ v. v ++ g.more k) (sym (got_is s state line k));
  puts = g.puts;
}

part_of : (s : FrameShape) (state : FarState) (line after : List Bool) (more : List FarPiece) (o p : Outputs) → pieces_of s after ≡ pieces_of s line ++ more
    → GainsPart (far_got s state.stores.leaves (λ j. pieces_of s line)) (far_got s state.stores.leaves (λ j. pieces_of s line ++ more)) o p → GainsPart ((far_meaning s state).got line) ((far_meaning s state).got after) o p
part_of s state line after more o p is g = record {
  more = g.more;
  gained = λ k.
      got_is s state after k ∙ far_below s state.stores.leaves (λ j. pieces_of s after) (λ j. pieces_of s line ++ more) (λ j lt. is) k ∙ g.gained k
      ∙ ap (λ v. v ++ g.more k) (sym (got_is s state line k));
  puts = g.puts;
}

pub meaning_same : (s : FrameShape) (old new : FarState) → KeepsPlace old new → far_meaning s new ≡ far_meaning s old
meaning_same s old new keeps =
    ap (λ p. smooth_meaning s p new.stores.leaves.first new.stores.leaves.marks) keeps.path ∙ ap (λ (l : Leaves). smooth_meaning s old.path l.first l.marks) keeps.leaves

pub keeps_both : (a b c : FarState) → KeepsPlace a b → KeepsPlace b c → KeepsPlace a c
keeps_both a b c f g = record { path = g.path ∙ f.path; leaves = g.leaves ∙ f.leaves }

-- it can take pieces
pub stores_ready : (s : FrameShape) (state : FarState) (o : Outputs) → IsReady s state o → AreReady s state.stores o
stores_ready s state o ready = record { pieces = λ j. pieces_of s ready.line; each = ready.stands.each; lists = ready.lists }

-- it took bits, and can take more
pub still_ready : (s : FrameShape) (old new : FarState) (bits : List Bool) (o p : Outputs) → p.holds ≡ o.holds → KeepsPlace old new → IsReady s old o
    → TakesBits (far_meaning s old) bits (SmoothStands s old) (SmoothStands s new) o p → IsReady s new p
still_ready s old new bits o p holds keeps ready taken = record {
  line = ready.line ++ bits;
  stands = taken.stands ready.line ready.stands;
  lists = λ k is. ap (λ h. h k) holds ∙ ready.lists k (ap (λ (m : Meaning). m.leaves k) (sym (meaning_same s old new keeps)) ∙ is);
}

-- ---- one more bit

-- children that put nothing
quiet_got : (s : FrameShape) (lines : ℕ → List Bool) (k : ℕ) → got_by (map (λ c. mute_meaning) (quiet s)) lines k ≡ []
quiet_got s lines k = go (quiet s) lines
  where
    go : (cs : List (Unit {0})) (lines : ℕ → List Bool) → got_by (map (λ c. mute_meaning) cs) lines k ≡ []
    go [] lines = refl
    go (c ∷ cs) lines = go cs (λ j. lines (suc j))

quiet_gives : (s : FrameShape) (more : ℕ → List Bool) (o : Outputs) → Gives (λ (c : Unit {0}) line. Unit {0}) (map (λ c. mute_meaning) (quiet s)) more (quiet s) (quiet s) o o
quiet_gives s more o = record {
  each = λ lines each j c at. tt;
  gains = λ lines each. gains_nothing _ _ o (λ k. quiet_got s _ k ∙ sym (quiet_got s lines k));
}

module _ (s : FrameShape) (shape : IsFrame s) (state : FarState) (held' : AlignerHeld) (step : Step) (bit : Bool) (line : List Bool)
    (st : SmoothStands s state line) (tracks : Tracks s state.aligner held' bit step line) (gap' : ℕ) (now : gap' ≡ gap_after s step state.gap) where
  pieces_more : pieces_of s (line ++ bit ∷ []) ≡ pieces_of s line ++ far_steps step held'.ready gap'
  pieces_more =
      pieces_are s (line ++ bit ∷ []) ∙ far_step s step held'.ready (track s line) (track s (line ++ bit ∷ [])) state.gap shape st.node.gap_is tracks.grows
      ∙ ap (λ v. v ++ far_steps step held'.ready (gap_after s step state.gap)) (sym (pieces_are s line))
      ∙ ap (λ v. pieces_of s line ++ far_steps step held'.ready v) (sym now)

  pub push_stands : (new : Stores) (frames' : ℕ) (o p : Outputs) → frames' ≡ frames_after step state.frames → FarGives s (λ j. far_steps step held'.ready gap') state.stores new o p
      → SmoothStands s (record { path = state.path; stores = new; aligner = held'; gap = gap'; frames = frames' }) (line ++ bit ∷ [])
  push_stands new frames' o p delivers g = record {
    node = node_tracks (λ (c : Unit {0}) line. Unit {0}) (λ c. mute_meaning) s state.path shape (quiet s) state.aligner held' state.gap state.frames step bit line st.node tracks gap' now (quiet s) frames' o o delivers refl (quiet_gives s (step_bits s step held'.ready gap') o);
    each = far_each_same s new.held _ _ (λ j lt. sym pieces_more) (g.each (λ j. pieces_of s line) st.each);
  }

  pub push_gains : (new : Stores) (o p : Outputs) → FarGives s (λ j. far_steps step held'.ready gap') state.stores new o p
      → Gains ((far_meaning s state).got line) ((far_meaning s state).got (line ++ bit ∷ [])) o p
  push_gains new o p g = gains_of s state line (line ++ bit ∷ []) (far_steps step held'.ready gap') o p pieces_more (g.gains (λ j. pieces_of s line) st.each)

  pub push_part : (o p : Outputs) → FarGivesPart s (λ j. far_steps step held'.ready gap') state.stores o p
      → GainsPart ((far_meaning s state).got line) ((far_meaning s state).got (line ++ bit ∷ [])) o p
  push_part o p g = part_of s state line (line ++ bit ∷ []) (far_steps step held'.ready gap') o p pieces_more (g.gains (λ j. pieces_of s line) st.each)

-- an aligner of which ready frames were taken is what it was
pub smooth_taken : (s : FrameShape) (state : FarState) (now : AlignerHeld) (line : List Bool) → now ≡ record state.aligner { ready = now.ready } → SmoothStands s state line → SmoothStands s (record state { aligner = now }) line
smooth_taken s state now line is st =
    record { node = tracks_taken (λ (c : Unit {0}) line. Unit {0}) (λ c. mute_meaning) s (quiet s) state.aligner now state.gap state.frames line is st.node; each = st.each }

-- ---- bits by which no leaf gains anything

-- they bring no piece
idle_takes : (s : FrameShape) (state : FarState) (held' : AlignerHeld) (gap' : ℕ) (bits : List Bool) (o : Outputs)
    → ((line : List Bool) → SmoothStands s state line → NodeTracks (λ (c : Unit {0}) line. Unit {0}) (λ c. mute_meaning) s (quiet s) held' gap' state.frames (line ++ bits) × (pieces_of s (line ++ bits) ≡ pieces_of s line))
    → TakesBits (far_meaning s state) bits (SmoothStands s state) (SmoothStands s (record { path = state.path; stores = state.stores; aligner = held'; gap = gap'; frames = state.frames })) o o
idle_takes s state held' gap' bits o stays = record {
  stands = λ line st. record { node = (stays line st).0; each = far_each_same s state.stores.held _ _ (λ j lt. sym (stays line st).1) st.each };
  gains = λ line st. gains_nothing _ _ o (λ k. got_is s state (line ++ bits) k ∙ far_below s state.stores.leaves (λ j. pieces_of s (line ++ bits)) (λ j. pieces_of s line) (λ j lt. (stays line st).1) k ∙ sym (got_is s state line k));
}

-- bits up to the one at which frames end
pub wait_takes : (s : FrameShape) (state : FarState) (held' : AlignerHeld) (bits : List Bool) (o : Outputs) → ((line : List Bool) → StandsFor s state.aligner line → Waits s held' bits line)
    → TakesBits (far_meaning s state) bits (SmoothStands s state) (SmoothStands s (record { path = state.path; stores = state.stores; aligner = held'; gap = state.gap; frames = state.frames })) o o
wait_takes s state held' bits o waits = idle_takes s state held' state.gap bits o stays
  where
    stays : (line : List Bool) → SmoothStands s state line → NodeTracks (λ (c : Unit {0}) line. Unit {0}) (λ c. mute_meaning) s (quiet s) held' state.gap state.frames (line ++ bits) × (pieces_of s (line ++ bits) ≡ pieces_of s line)
    stays line st = (
      node_waits (λ (c : Unit {0}) line. Unit {0}) (λ c. mute_meaning) s (quiet s) state.aligner held' state.gap state.frames bits line st.node (waits line st.node.aligner),
      pieces_are s (line ++ bits) ∙ ap (flat_map (far_pieces s)) (waits line st.node.aligner).same ∙ sym (pieces_are s line),
    )

-- positions of a gap that are passed over at once, short of a whole frame's length of it
pub pass_takes : (s : FrameShape) → IsFrame s → (state : FarState) (held' : AlignerHeld) (gap' : ℕ) (bits : List Bool) (o : Outputs) → ((line : List Bool) → StandsFor s state.aligner line → Passes s held' bits line)
    → state.gap + length bits < s.len → gap' ≡ state.gap + length bits
    → TakesBits (far_meaning s state) bits (SmoothStands s state) (SmoothStands s (record { path = state.path; stores = state.stores; aligner = held'; gap = gap'; frames = state.frames })) o o
pass_takes s shape state held' gap' bits o passes short goes = idle_takes s state held' gap' bits o stays
  where
    stays : (line : List Bool) → SmoothStands s state line → NodeTracks (λ (c : Unit {0}) line. Unit {0}) (λ c. mute_meaning) s (quiet s) held' gap' state.frames (line ++ bits) × (pieces_of s (line ++ bits) ≡ pieces_of s line)
    stays line st =
        let N : ℕ → Type 0 = λ n. NodeTracks (λ (c : Unit {0}) line. Unit {0}) (λ c. mute_meaning) s (quiet s) held' n state.frames (line ++ bits) in (
          subst N (sym goes) (node_passed (λ (c : Unit {0}) line. Unit {0}) (λ c. mute_meaning) s shape (quiet s) state.aligner held' state.gap state.frames bits line st.node (passes line st.node.aligner) short),
          far_passed s held' bits line state.gap st.node.gap_is (passes line st.node.aligner) short,
        )

-- ---- parts of a list

-- the first bit from a place on, behind none
pub first_bit : (from most none : ℕ) (bits : List Bool) (bit : Bool) → 0 < most → from + most ≤ length bits → none ≡ 0 → bit ≡ get_or bits from false → IsPrefix (take none (drop from bits) ++ bit ∷ []) (take most (drop from bits))
first_bit from most none bits bit some within is read =
    let rest : List Bool = drop from bits in
    let inside : 0 < length rest = omega (arith, some, within, length-drop from bits) in
    let at : from + 0 ≡ from = omega arith in
    let here : take 1 rest ≡ bit ∷ [] = take_more rest 0 false inside ∙ ap (λ b. b ∷ []) (get_or-drop from bits 0 false ∙ ap (λ n. get_or bits n false) at ∙ sym read) in
    let whole : 1 + (most - 1) ≡ most = omega (arith, some) in (
      take (most - 1) (drop 1 rest),
      ap (λ n. take n rest) (sym whole) ∙ take-add 1 (most - 1) rest ∙ ap (λ v. v ++ take (most - 1) (drop 1 rest)) (here ∙ ap (λ n. take n rest ++ bit ∷ []) (sym is)),
    )

-- and alone
pub one_bit : (from none : ℕ) (bits : List Bool) (bit : Bool) → from < length bits → none ≡ 0 → bit ≡ get_or bits from false → take 1 (drop from bits) ≡ take none (drop from bits) ++ bit ∷ []
one_bit from none bits bit lt is read =
    let rest : List Bool = drop from bits in
    let inside : 0 < length rest = omega (arith, lt, length-drop from bits) in
    let at : from + 0 ≡ from = omega arith in
    take_more rest 0 false inside ∙ ap (λ b. b ∷ []) (get_or-drop from bits 0 false ∙ ap (λ n. get_or bits n false) at ∙ sym read) ∙ ap (λ n. take n rest ++ bit ∷ []) (sym is)

-- those that are done, and those that are left
pub parts_of : (from count done : ℕ) (bits : List Bool) → done ≤ count → IsPrefix (take done (drop from bits) ++ take (count - done) (drop (from + done) bits)) (take count (drop from bits))
parts_of from count done bits le =
    let rest : List Bool = drop from bits in
    let whole : done + (count - done) ≡ count = omega (arith, le) in
    let both : take count rest ≡ take done rest ++ take (count - done) (drop (from + done) bits) =
    ap (λ n. take n rest) (sym whole) ∙ take-add done (count - done) rest ∙ ap (λ v. take done rest ++ take (count - done) v) (drop-drop done from bits) in
    ([], both ∙ sym (append-nil (take done rest ++ take (count - done) (drop (from + done) bits))))

-- ---- the start

no_pieces : (s : FrameShape) → IsFrame s → pieces_of s [] ≡ []
no_pieces s shape =
    let none : 0 / s.len ≡ 0 = zero-div s.len in
    pieces_are s [] ∙ ap (flat_map (far_pieces s)) (track_none s shape) ∙ append-nil (far_pieces s (Gap 0)) ∙ ap (λ n. replicate n Ones) none

-- so no bits have no marks
pub marks_none : (s : FrameShape) (j : ℕ) → IsFrame s → marks s j [] ≡ []
unfolding marks
marks_none s j shape = ap (λ pieces. map (reads_more s j pieces) (range_with_len 0 (length pieces))) (no_pieces s shape)

fresh_holds : (s : FrameShape) (j low : ℕ) (held : Held) → low ≡ s.low → fresh_store low ≡ held → FarHolds s j [] [] held
fresh_holds s j low held is same =
    let P : Held → Type 0 = λ h. FarHolds s j [] [] h in
    subst P same (record { come = refl; bits = sym (append-nil (replicate threshold true)); ones = omega arith; room = (let e : threshold + (low + 1) ≡ threshold + suc s.low = omega (arith, is) in e) })

fresh_at : (n j : ℕ) (fresh held : Held) → slice_get (replicate n fresh) j ≡ Some held → fresh ≡ held
fresh_at zero j fresh held e = absurd (no e)
  where
    no : slice_get {X = Held} [] j ≡ Some held → ⊥
    no h = cc
fresh_at (suc n) zero fresh held e = same_Some fresh held e
fresh_at (suc n) (suc j) fresh held e = fresh_at n j fresh held e

pub opened_stands : (s : FrameShape) → IsFrame s → (path : Path) (stores : Stores) (held : AlignerHeld) (n low : ℕ) (leaves : Leaves) → low ≡ s.low → stores ≡ record { held = replicate n (fresh_store low); leaves = leaves } → StandsFor s held []
    → SmoothStands s (record { path = path; stores = stores; aligner = held; gap = 0; frames = 0 }) []
opened_stands s shape path stores held n low leaves is are aligner = record {
  node = opened (λ (c : Unit {0}) line. Unit {0}) (λ c. mute_meaning) s shape (quiet s) held (length-replicate s.tribs tt) (λ j c at. tt) aligner;
  each = λ j h known at.
      let P : List FarPiece → Type 0 = λ p. FarHolds s j p (bits_of s j p) h in
      subst P (sym (no_pieces s shape)) (fresh_holds s j low h is (fresh_at n j (fresh_store low) h (ap (λ (v : Stores). slice_get v.held j) (sym are) ∙ at)));
}
