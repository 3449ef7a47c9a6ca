-- What notes the events of a node of far stores: a demultiplexer whose children take bits and put none.
use Rattle.std.proofs.Common.{◌≡◌, ℕ, zero, suc, Bool, false, List, [], ◌∷◌, ◌++◌, length, map, take, drop, replicate, slice_get, Some, None, refl, sym, ap, subst, ◌∙◌, arith, append_assoc}
use Rattle.std.proofs.lemmas.Bool.{false≢true}
use Rattle.std.proofs.lemmas.List.{append-nil, take-append-drop}
use Rattle.pdh_edge.specs.Ports.{Outputs, IsPrefix}
use Rattle.pdh_shape.specs.declared.place.Path.{Path}
use Rattle.pdh_shape.specs.Frame.{FrameShape}
use Rattle.pdh_events.specs.laws.QuietLaws.{IsQuiet}
use Rattle.pdh_rx.specs.Meaning.{Meaning, IsSound, HoldsAll, Gains, GainsPart}
use Rattle.pdh_rx.specs.Node.{got_by, any_leaf, IsDisjoint, ArePlaced, node_meaning}
use Rattle.pdh_rx.proofs.Gains.{gains_nothing, part_after}
use Rattle.pdh_desync.specs.Smooth.{mute_meaning}

-- one of them notes nothing
pub mute_quiet : (line bits : List Bool) → IsQuiet mute_meaning.notes line bits
mute_quiet line [] = tt
mute_quiet line (bit ∷ bits) = (refl, mute_quiet (line ++ bit ∷ []) bits)

-- ---- what it puts

mute_got : (n : ℕ) (lines : ℕ → List Bool) (k : ℕ) → got_by (replicate n mute_meaning) lines k ≡ []
mute_got zero lines k = refl
mute_got (suc n) lines k = mute_got n (λ j. lines (suc j)) k

mute_leaves : (n : ℕ) (k : ℕ) → any_leaf (replicate n mute_meaning) k ≡ false
mute_leaves zero k = refl
mute_leaves (suc n) k = mute_leaves n k

-- nothing, for any leaf
none_more : (s : FrameShape) (path : Path) (m : Meaning) (line line' : List Bool) (more : ℕ → List Bool) → m ≡ node_meaning s path (replicate s.tribs mute_meaning) → ((k : ℕ) → m.got line' k ≡ m.got line k ++ more k) → (k : ℕ) → more k ≡ []
none_more s path m line line' more is gained k =
    let P : Meaning → Type 0 = λ m. m.got line' k ≡ m.got line k ++ more k in
    let h = subst P is (gained k) in
    let none : (l : List Bool) → (node_meaning s path (replicate s.tribs mute_meaning)).got l k ≡ [] = λ l. mute_got s.tribs _ k in
    sym (ap (λ v. v ++ more k) (none line)) ∙ sym h ∙ none line'

-- so what any leaves have got stays
pub silent_gains : (s : FrameShape) (path : Path) (got : ℕ → List Bool) (m : Meaning) (line line' : List Bool) (o p : Outputs) → m ≡ node_meaning s path (replicate s.tribs mute_meaning) → Gains (m.got line) (m.got line') o p → Gains got got o p
silent_gains s path got m line line' o p is g = record {
  more = g.more;
  gained = λ k. sym (append-nil (got k)) ∙ ap (λ v. got k ++ v) (sym (none_more s path m line line' g.more is g.gained k));
  puts = g.puts;
}

-- also where a call failed; more was to come
pub silent_part : (s : FrameShape) (path : Path) (node m : Meaning) (line line' more : List Bool) (o p : Outputs) → IsSound node → m ≡ node_meaning s path (replicate s.tribs mute_meaning) → GainsPart (m.got line) (m.got line') o p
    → GainsPart (node.got line) (node.got (line ++ more)) o p
silent_part s path node m line line' more o p sound is g =
    let got : ℕ → List Bool = node.got line in
    let none : GainsPart got got o p = record {
      more = g.more;
      gained = λ k. sym (append-nil (got k)) ∙ ap (λ v. got k ++ v) (sym (none_more s path m line line' g.more is g.gained k));
      puts = g.puts;
    } in
    part_after got got got (node.got (line ++ more)) o o p (gains_nothing got got o (λ k. refl)) none (sound.grows line more)

-- a receiver that takes the first of these bits puts a front of what it puts by all
pub front_grows : (node : Meaning) (line bits : List Bool) (n : ℕ) → IsSound node → (k : ℕ) → IsPrefix (node.got (line ++ take n bits) k) (node.got (line ++ bits) k)
front_grows node line bits n sound k =
    let is : line ++ take n bits ++ drop n bits ≡ line ++ bits = append_assoc line (take n bits) (drop n bits) ∙ ap (λ v. line ++ v) (take-append-drop n bits) in
    let P : List Bool → Type 0 = λ v. IsPrefix (node.got (line ++ take n bits) k) (node.got v k) in
    subst P is (sound.grows (line ++ take n bits) (drop n bits) k)

pub silent_lists : (s : FrameShape) (path : Path) (m : Meaning) (o : Outputs) → m ≡ node_meaning s path (replicate s.tribs mute_meaning) → HoldsAll m.leaves o
silent_lists s path m o is k leaf = absurd (false≢true (sym (ap (λ (v : Meaning). v.leaves k) is ∙ mute_leaves s.tribs k) ∙ leaf))

-- ---- its children

child_is : {C : Type 0} (cs : List C) (j : ℕ) (x : Meaning) → slice_get (map (λ c. mute_meaning) cs) j ≡ Some x → mute_meaning ≡ x
child_is [] j x e = absurd (no e)
  where
    no : slice_get {X = Meaning} [] j ≡ Some x → ⊥
    no h = cc
child_is (c ∷ cs) zero x e = cc
child_is (c ∷ cs) (suc j) x e = child_is cs j x e

pub quiet_disjoint : {C : Type 0} (cs : List C) → IsDisjoint (map (λ c. mute_meaning) cs)
quiet_disjoint cs i j k a b ea eb ha hb = absurd (false≢true (ap (λ (m : Meaning). m.leaves k) (child_is cs i a ea) ∙ ha))

pub quiet_placed : {C : Type 0} (path : Path) (cs : List C) → ArePlaced path (map (λ c. mute_meaning) cs)
quiet_placed path cs j x node e h = absurd (no (ap (λ (m : Meaning). m.path) (child_is cs j x e) ∙ h))
  where
    no : None ≡ Some node → ⊥
    no h = cc

pub quiet_all : {C : Type 0} (n : ℕ) (cs : List C) → length cs ≡ n → map (λ c. mute_meaning) cs ≡ replicate n mute_meaning
quiet_all n [] e = ap (λ k. replicate k mute_meaning) e
quiet_all zero (c ∷ cs) e = absurd (omega (arith, e))
quiet_all (suc n) (c ∷ cs) e = ap (λ v. mute_meaning ∷ v) (quiet_all n cs (omega (arith, e)))
