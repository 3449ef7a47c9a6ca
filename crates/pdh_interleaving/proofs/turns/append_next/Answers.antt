use Rattle.std.proofs.Common.{◌≡◌, ℕ, ◌<◌, ◌++◌, List, Bool, [], ◌∷◌, length, take, drop, get_or, ap, ◌∙◌, arith}
use Rattle.std.proofs.lemmas.List.{get_or_default}
use Rattle.pdh_bits.specs.BitOut.{BoundedBits}
use Rattle.pdh_packed.specs.Words.{low_bits, bounded}
use Rattle.pdh_interleaving.proofs.RowLaws.{made_alike, each_of_four, each_of_seven}
use Rattle.pdh_interleaving.proofs.turns.append_next.Goals as goal

abbrev none : BoundedBits
none = bounded 0 []

-- a number begins with bits of a list
abbrev BeginsWith : List BoundedBits → ℕ → ℕ → List ℕ → ℕ → Type 0
BeginsWith lists place count words j = take count (low_bits 64 (get_or words j 0)) ≡ take count (drop place (get_or lists j none).bits)

item : (lists : List BoundedBits) (list : BoundedBits) (place count j : ℕ) (word : List Bool) → list ≡ get_or lists j list → j < length lists → word ≡ take count (drop place list.bits) → word ≡ take count (drop place (get_or lists j none).bits)
item lists list place count j word is within read = read ∙ ap (λ (b : BoundedBits). take count (drop place b.bits)) (is ∙ get_or_default lists j list none within)

pub returns-then-tributaries-eq4 : goal.returns-then-tributaries-eq4
returns-then-tributaries-eq4 c =
    let lists = c.args.tributaries.now in
    let place = c.args.place in
    let count = c.args.count in
    let line = c.args.line.now in
    let words : List ℕ = c.read_left.result ∷ c.read_left-then-tributaries-eq4.result ∷ c.read_left-then-tributaries-eq4-2.result ∷ c.read_left-then-tributaries-eq4-3.result ∷ [] in
    let many : 4 ≡ length lists = omega (arith, c.if-tributaries-eq4.true) in
    let alike = made_alike (low_bits 64) (λ (t : BoundedBits). drop place t.bits) words lists count 0 none many
    (each_of_four (BeginsWith lists place count words)
    (item lists c.index-tributaries-0.result place count 0 _ c.index-tributaries-0.is (omega arith) c.read_left.ensures)
    (item lists c.index-tributaries-1.result place count 1 _ c.index-tributaries-1.is (omega arith) c.read_left-then-tributaries-eq4.ensures)
    (item lists c.index-tributaries-2.result place count 2 _ c.index-tributaries-2.is (omega arith) c.read_left-then-tributaries-eq4-2.ensures)
    (item lists c.index-tributaries-3.result place count 3 _ c.index-tributaries-3.is (omega arith) c.read_left-then-tributaries-eq4-3.ensures)) in
    c.append_four.ensures ∙ ap (λ (bits : List Bool). bounded line.capacity (line.bits ++ bits)) alike

pub returns-else-tributaries-eq4 : goal.returns-else-tributaries-eq4
returns-else-tributaries-eq4 c =
    let lists = c.args.tributaries.now in
    let place = c.args.place in
    let count = c.args.count in
    let line = c.args.line.now in
    let words : List ℕ =
    c.read_left-else-tributaries-eq4.result ∷ c.read_left-else-tributaries-eq4-2.result ∷ c.read_left-else-tributaries-eq4-3.result ∷ c.read_left-else-tributaries-eq4-4.result ∷ c.read_left-else-tributaries-eq4-5.result ∷ c.read_left-else-tributaries-eq4-6.result ∷ c.read_left-else-tributaries-eq4-7.result ∷ [] in
    let many : 7 ≡ length lists = grind (arith, c.requires.tributaries, c.if-tributaries-eq4.false) in
    let alike = made_alike (low_bits 64) (λ (t : BoundedBits). drop place t.bits) words lists count 0 none many
    (each_of_seven (BeginsWith lists place count words)
    (item lists c.index-tributaries-0-else-tributaries-eq4.result place count 0 _ c.index-tributaries-0-else-tributaries-eq4.is (omega arith) c.read_left-else-tributaries-eq4.ensures)
    (item lists c.index-tributaries-1-else-tributaries-eq4.result place count 1 _ c.index-tributaries-1-else-tributaries-eq4.is (omega arith) c.read_left-else-tributaries-eq4-2.ensures)
    (item lists c.index-tributaries-2-else-tributaries-eq4.result place count 2 _ c.index-tributaries-2-else-tributaries-eq4.is (omega arith) c.read_left-else-tributaries-eq4-3.ensures)
    (item lists c.index-tributaries-3-else-tributaries-eq4.result place count 3 _ c.index-tributaries-3-else-tributaries-eq4.is (omega arith) c.read_left-else-tributaries-eq4-4.ensures)
    (item lists c.index-tributaries-4.result place count 4 _ c.index-tributaries-4.is (omega arith) c.read_left-else-tributaries-eq4-5.ensures)
    (item lists c.index-tributaries-5.result place count 5 _ c.index-tributaries-5.is (omega arith) c.read_left-else-tributaries-eq4-6.ensures)
    (item lists c.index-tributaries-6.result place count 6 _ c.index-tributaries-6.is (omega arith) c.read_left-else-tributaries-eq4-7.ensures)) in
    c.append_rows.ensures ∙ ap (λ (bits : List Bool). bounded line.capacity (line.bits ++ bits)) alike
