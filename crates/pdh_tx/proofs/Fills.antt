-- The fill of a tributary's store.
use Rattle.std.proofs.Common.{◌≡◌, ◌<◌, ◌+◌, ◌*◌, ◌%◌, ◌/◌, ℕ, List, [], ◌∷◌, sym, ap, ◌∙◌, subst, arith}
use Rattle.pdh_shape.specs.Frame.{FrameShape}
use Rattle.pdh_shape.specs.Tributary.{reads_below}
use Rattle.pdh_shape.specs.declared.place.Path.{Path}
use Rattle.pdh_line.specs.Sending.{HasStores, Carriage, carriage, taken}
use Rattle.pdh_tx.specs.Meaning.{Plan, Meaning, NodeFrame}
use Rattle.pdh_tx.specs.Node.{node_meaning, taken_to, IsFill}
use Rattle.pdh_tx.specs.Held.{Readout, unslipped, gone_with, put_with}
use Rattle.pdh_tx.specs.Slipping.{read_to}
use Rattle.pdh_tx.proofs.Readouts.{none-by}
use Rattle.pdh_tx.specs.laws.Stepping.{frame_is, slot_is, taken_is}

first_path : Path → List NodeFrame → Path
first_path path [] = path
first_path path (node ∷ nodes) = node.path

-- a node's meaning tells its path
pub path_same : (s : FrameShape) (path path' : Path) (ms ms' : List Meaning) → node_meaning s path ms ≡ node_meaning s path' ms' → path ≡ path'
unfolding first_path
path_same s path path' ms ms' is = ap (λ m. first_path path m.nodes) is

-- a store holds what was put into it and isn't gone
pub fill_is : (s : FrameShape) (path path' : Path) (plan : Plan) (len j n t x held : ℕ) → path ≡ path' → s.len ≡ len → n * s.len + t ≡ x → t < s.len
    → gone_with (read_to s path plan n t j).edits (read_to s path plan n t j).read + held ≡ put_with (read_to s path plan n t j).edits (taken_to s path plan n t j) → IsFill plan.mode s len (plan.counts path' j) j x held
fill_is s path path' plan len j n t x held same long place inside count =
    let P : Path → Type 0 = λ p. IsFill plan.mode s len (plan.counts p j) j x held in
    let c : Carriage = carriage plan.mode s j (plan.counts path j) in
    let G : ℕ → ℕ → ℕ = λ q r. gone_with (c.edits q r) (c.sent q + reads_below s j (c.more q) r) + held in
    let T : ℕ → ℕ → ℕ = λ q r. put_with (c.edits q r) (taken s (plan.counts path j) x) in
    let at : (f : ℕ → ℕ → ℕ) → f (x / len) (x % len) ≡ f n t = λ f.
    ap (λ l. f (x / l) (x % l)) (sym long) ∙ ap (λ q. f q (x % s.len)) (frame_is s n t x place inside) ∙ ap (f n) (slot_is s n t x place inside) in
    subst P same (at G ∙ count ∙ ap (put_with (c.edits n t)) (sym (taken_is s n t x place inside path plan j)) ∙ sym (at T))

-- and none before its first bit
pub fill_none : (s : FrameShape) (stores : HasStores s) (path : Path) (plan : Plan) (j n t held : ℕ) → n * s.len + t ≡ 0 → t < s.len
    → gone_with (read_to s path plan n t j).edits (read_to s path plan n t j).read + held ≡ put_with (read_to s path plan n t j).edits (taken_to s path plan n t j) → held ≡ 0
fill_none s stores path plan j n t held place inside count =
    let none : taken_to s path plan n t j ≡ 0 = sym (taken_is s n t 0 place inside path plan j) in
    let zero : 0 * s.len + 0 ≡ 0 = omega arith in
    let frame : n ≡ 0 = sym (frame_is s n t 0 place inside) ∙ frame_is s 0 0 0 zero (omega (arith, inside)) in
    let slot : t ≡ 0 = omega (arith, place) in
    let start : read_to s path plan n t j ≡ unslipped 0 = ap (λ m. read_to s path plan m t j) frame ∙ ap (λ u. read_to s path plan 0 u j) slot ∙ none-by s j (plan.counts path j) plan.mode stores in
    let P : Readout → Type 0 = λ out. gone_with out.edits out.read + held ≡ put_with out.edits (taken_to s path plan n t j) in
    let now : 0 + held ≡ taken_to s path plan n t j = subst P start count in
    omega (arith, now, none)
