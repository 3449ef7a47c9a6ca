use Rattle.std.proofs.Common.{◌≡◌, ℕ, ◌+◌, ◌-◌, ◌*◌, ◌/◌, ◌%◌, ◌^◌, ◌<◌, ◌++◌, Bool, List, [], get_or, length, take, drop, refl, sym, ap, ◌∙◌, append-nil, arith, length-take, length-drop}
use Rattle.std.proofs.lemmas.List.{get_or-take, get_or-drop}
use Rattle.pdh_packed.specs.Words.{low_bits, bits_of_words}
use Rattle.pdh_packed.proofs.RunLaws.{moved_word, moved_more}
use Rattle.pdh_packed.proofs.appending.append_moved.Goals as goal

pub loop-next-init : goal.loop-next-init
loop-next-init c = record { front = refl; bits = sym (append-nil (bits_of_words c.args.words.now.items)); count = omega arith; capacity = refl }

pub push_reserved-requires : goal.push_reserved-requires
push_reserved-requires c =
    let others = c.args.others.now in
    omega (
      arith,
      c.requires.room,
      c.loop-next.invariant.count,
      c.loop-next.invariant.capacity,
      c.loop-next-test.true,
      c.loop-next.words.ok,
      length-take (length others - 1) (drop 1 others),
      length-drop 1 others,
    )

pub loop-next-preserved : goal.loop-next-preserved
loop-next-preserved c =
    let others = c.args.others.now in
    let place = c.args.place in
    let i = c.loop-next.next-index in
    let front = c.loop-next.front in
    let bits : List Bool = bits_of_words others in
    let rest : List ℕ = take (length others - 1) (drop 1 others) in
    let next : ℕ = get_or rest i 0 in
    let x : ℕ = (front * 2 ^ place % 2 ^ 64 + next / 2 ^ (64 - place)) % 2 ^ 64 in
    let within : i + 1 < length others = omega (arith, c.loop-next-test.true, length-take (length others - 1) (drop 1 others), length-drop 1 others) in
    let turned : 1 + i ≡ i + 1 = omega arith in
    let is_next : next ≡ get_or others (i + 1) 0 = get_or-take (length others - 1) (drop 1 others) i 0 (omega (arith, within)) ∙ get_or-drop 1 others i 0 ∙ ap (λ (k : ℕ). get_or others k 0) turned in
    let small : next < 2 ^ 64 = omega (arith, is_next, (c.type_inv.others (i + 1)).fits) in
    let read : low_bits 64 x ≡ take 64 (drop (64 * i + place) bits) =
    moved_word others [] place i front next c.requires.place.0 c.requires.place.1 within c.loop-next.invariant.front is_next small
    ∙ ap (λ (b : List Bool). take 64 (drop (64 * i + place) b)) (append-nil bits) in
    record {
      front = is_next;
      bits = moved_more (bits_of_words c.args.words.now.items) c.loop-next.words.items c.push_reserved.new.self.items bits place i x c.loop-next.invariant.bits c.push_reserved.ensures.items read;
      count = omega (arith, c.loop-next.invariant.count, c.push_reserved.ensures.len, c.push_reserved.new.self.ok, c.loop-next.words.ok);
      capacity = omega (arith, c.loop-next.invariant.capacity, c.push_reserved.ensures.capacity);
    }

pub returns-clause-bits : goal.returns-clause-bits
returns-clause-bits c =
    let others = c.args.others.now in
    let i = c.loop-next.next-index in
    let all : i ≡ length others - 1 =
    omega (arith, c.loop-next-test.false, c.loop-next.auto.next-index-end, length-take (length others - 1) (drop 1 others), length-drop 1 others) in
    c.loop-next.invariant.bits ∙ ap (λ (k : ℕ). bits_of_words c.args.words.now.items ++ take (64 * k) (drop c.args.place (bits_of_words others))) all
