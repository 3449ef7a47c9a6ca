use Rattle.std.proofs.Common.{◌≡◌, ℕ, ◌+◌, ◌-◌, ◌*◌, ◌<◌, ◌≤◌, List, Bool, false, [], ◌∷◌, ◌++◌, length, get_or, take, drop, refl, sym, ap, ◌∙◌, subst, inl, inr, arith}
use Rattle.std.proofs.lemmas.List.{take_all, length-take-le}
use Rattle.std.proofs.lemmas.Bool.{cases_lt}
use Rattle.pdh_judging.specs.declared.judged.Judged.{Judged}
use Rattle.pdh_g706.specs.declared.align.E1Align.{E1Align}
use Rattle.pdh_g706.specs.Frames.{frames_of}
use Rattle.pdh_g706.specs.Tracking.{multiframes_in, counted}
use Rattle.pdh_g706.specs.Machine.{Turn, turn}
use Rattle.pdh_g706.specs.View.{phase}
use Rattle.pdh_e1_judging.specs.declared.judge.Judging.{Judging}
use Rattle.pdh_e1_judging.specs.Judged.{with_multiframes}
use Rattle.pdh_e1_judging.specs.Judging.{more_bits, Follows, JudgingStands}
use Rattle.pdh_e1_judging.proofs.ShareLaws.{count_multiframes, with-append, with_none, still_confirms, one_more}
use Rattle.pdh_e1_judging.proofs.PushLaws.{few_before, delivered_by, within_line, stands_at, judging_push}
use Rattle.pdh_e1_judging.proofs.judge.Judging.push.Goals as goal

-- the turn that is made is that of the machine before it, with the line's next bit
same_turn : (old begun : Judging) (bits : List Bool) (place : ℕ) (bit : Bool) → begun ≡ record old { came = begun.came } → bit ≡ get_or bits place false
    → turn (phase begun.align) bit ≡ turn (phase old.align) (get_or bits place false)
same_turn old begun bits place bit same is = ap (λ (j : Judging). turn (phase j.align) bit) same ∙ ap (turn (phase old.align)) is

pub turn-count-requires-clause-follows : goal.turn-count-requires-clause-follows
turn-count-requires-clause-follows c =
    let align : c.begin-more.new.self.align ≡ c.args.self.now.align = ap (λ (j : Judging). j.align) c.begin-more.ensures.same in
    let line : List Bool = take c.args.place c.args.line.now.bits in
    let F : E1Align → Type 0 = λ a. Follows (phase a) line in
    let long : length line ≡ c.args.place = length-take-le c.args.place c.args.line.now.bits (omega (arith, c.requires.inside)) in (
      line,
      subst F (sym align) c.requires.stands.follows,
      omega (arith, long, c.requires.inside, c.len-fits.ensures.count),
      ap (λ (a : E1Align). a.counts.multiframes) align ∙ c.requires.stands.counts,
    )

pub turn-count-requires-clause-room : goal.turn-count-requires-clause-room
turn-count-requires-clause-room c = ap (λ (j : Judging). j.align.held.capacity) c.begin-more.ensures.same ∙ c.requires.stands.room

pub loop-number-init : goal.loop-number-init
loop-number-init c =
    let old = c.args.self.now in
    let begun = c.begin-more.new.self in
    let now = c.turn-count.new.self in
    let came : now.came ≡ begun.came = ap (λ (j : Judging). j.came) c.turn-count.ensures.same in
    let judged : now.judged ≡ old.judged = ap (λ (j : Judging). j.judged) c.turn-count.ensures.same ∙ ap (λ (j : Judging). j.judged) c.begin-more.ensures.same in
    let few : begun.came ≤ 2 = few_before old.align old.came begun.came c.requires.stands.few_came c.begin-more.ensures.framed c.begin-more.ensures.unframed in
    record {
      align = refl;
      came = omega (arith, came, few);
      judged = with_none (take c.args.place c.args.line.now.bits) now.judged (2 - now.came) (judged ∙ c.requires.stands.judged_is);
    }

-- how many multiframes it delivers
count_is : (old begun : Judging) (bits : List Bool) (place : ℕ) (bit : Bool) (count : ℕ) → begun ≡ record old { came = begun.came } → bit ≡ get_or bits place false → count ≡ (turn (phase begun.align) bit).gained.multiframes
    → count ≡ (turn (phase old.align) (get_or bits place false)).gained.multiframes
count_is old begun bits place bit count same is told = told ∙ ap (λ (t : Turn). t.gained.multiframes) (same_turn old begun bits place bit same is)

-- each of them stands in the line
inside_line : (old begun : Judging) (bits : List Bool) (place : ℕ) (bit : Bool) (count more number : ℕ) → begun ≡ record old { came = begun.came } → bit ≡ get_or bits place false → count ≡ (turn (phase begun.align) bit).gained.multiframes
    → more ≡ more_bits (phase old.align) → place < length bits → JudgingStands old.align old.came old.judged (take place bits) → number < count → more + 4096 * count ≤ place + 1
inside_line old begun bits place bit count more number same is told more_is inside stands lt =
    let all : count ≡ (turn (phase old.align) (get_or bits place false)).gained.multiframes = count_is old begun bits place bit count same is told in
    omega (arith, more_is, all, within_line old.align old.came old.judged bits place inside stands number (omega (arith, all, lt)))

pub overflow_sub-start : goal.overflow_sub-start
overflow_sub-start c =
    let w = inside_line c.args.self.now c.begin-more.new.self c.args.line.now.bits c.args.place c.get.result c.turn-count.result c.begin-more.result c.loop-number.number c.begin-more.ensures.same c.get.ensures c.turn-count.ensures.count
    c.begin-more.ensures.more c.requires.inside c.requires.stands c.loop-number-test.true in
    omega (arith, w)

pub overflow_mul-start : goal.overflow_mul-start
overflow_mul-start c =
    let w = inside_line c.args.self.now c.begin-more.new.self c.args.line.now.bits c.args.place c.get.result c.turn-count.result c.begin-more.result c.loop-number.number c.begin-more.ensures.same c.get.ensures c.turn-count.ensures.count
    c.begin-more.ensures.more c.requires.inside c.requires.stands c.loop-number-test.true in
    omega (arith, w, c.requires.inside, c.len-fits.ensures.count)

pub overflow_sub-start-in-loop-number-2 : goal.overflow_sub-start-in-loop-number-2
overflow_sub-start-in-loop-number-2 c =
    let w = inside_line c.args.self.now c.begin-more.new.self c.args.line.now.bits c.args.place c.get.result c.turn-count.result c.begin-more.result c.loop-number.number c.begin-more.ensures.same c.get.ensures c.turn-count.ensures.count
    c.begin-more.ensures.more c.requires.inside c.requires.stands c.loop-number-test.true in
    omega (arith, w, c.loop-number-test.true)

pub judge-requires-clause-inside : goal.judge-requires-clause-inside
judge-requires-clause-inside c =
    let w = inside_line c.args.self.now c.begin-more.new.self c.args.line.now.bits c.args.place c.get.result c.turn-count.result c.begin-more.result c.loop-number.number c.begin-more.ensures.same c.get.ensures c.turn-count.ensures.count
    c.begin-more.ensures.more c.requires.inside c.requires.stands c.loop-number-test.true in
    omega (arith, w, c.requires.inside, c.loop-number-test.true)

pub judge-requires-clause-few : goal.judge-requires-clause-few
judge-requires-clause-few c = omega (arith, c.loop-number.invariant.came)

pub loop-number-preserved : goal.loop-number-preserved
loop-number-preserved c =
    let old = c.args.self.now in
    let bits : List Bool = c.args.line.now.bits in
    let place = c.args.place in
    let n = c.loop-number.number in
    let inv = c.loop-number.invariant in
    let first = c.turn-count.new.self in
    let t : Turn = turn (phase old.align) (get_or bits place false) in
    let ms : List (List (List Bool)) = delivered_by old.align bits place in
    let count : c.turn-count.result ≡ t.gained.multiframes =
    c.turn-count.ensures.count ∙ ap (λ (t : Turn). t.gained.multiframes) (same_turn old c.begin-more.new.self bits place c.get.result c.begin-more.ensures.same c.get.ensures) in
    let lt : n < t.gained.multiframes = omega (arith, count, c.loop-number-test.true) in
    let long : length ms ≡ t.gained.multiframes = count_multiframes t.gained in
    let k : ℕ = 2 - first.came in
    elim (cases_lt c.loop-number.self.came 2) [
      | inl less ↦
          let is = c.judge.ensures.confirms less in
          record {
            align = ap (λ (j : Judging). j.align) is ∙ inv.align;
            came = (let more = ap (λ (j : Judging). j.came) is in omega (arith, more, inv.came, less));
            judged = ap (λ (j : Judging). j.judged) is ∙ inv.judged ∙ ap (with_multiframes first.judged) (sym (still_confirms ms n k (omega (arith, inv.came, less))));
          }
      | inr enough ↦
          let is = c.judge.ensures.judges (omega (arith, inv.came, enough)) in
          let start : ℕ → ℕ → ℕ = λ more count. place + 1 - more - 4096 * (count - n) in
          let here : List (List Bool) = frames_of (take 4096 (drop (start c.begin-more.result c.turn-count.result) bits)) in
          let one : get_or ms n [] ≡ here =
          stands_at old.align old.came old.judged bits place c.requires.inside c.requires.stands n lt
          ∙ ap (λ m. frames_of (take 4096 (drop (start m t.gained.multiframes) bits))) (sym c.begin-more.ensures.more)
          ∙ ap (λ g. frames_of (take 4096 (drop (start c.begin-more.result g) bits))) (sym count) in
          record {
            align = ap (λ (j : Judging). j.align) is ∙ inv.align;
            came = (let more = ap (λ (j : Judging). j.came) is in omega (arith, more, inv.came, enough));
            judged = ap (λ (j : Judging). j.judged) is ∙ ap (λ (j : Judged). with_multiframes j (here ∷ [])) inv.judged ∙ sym (with-append first.judged (drop k (take n ms)) (here ∷ []))
                ∙ ap (λ (x : List (List Bool)). with_multiframes first.judged (drop k (take n ms) ++ x ∷ [])) (sym one)
                ∙ ap (with_multiframes first.judged) (sym (one_more ms n k [] (omega (arith, inv.came, enough)) (omega (arith, long, lt))));
          }
    ]

pub returns : goal.returns
returns c =
    let old = c.args.self.now in
    let bits : List Bool = c.args.line.now.bits in
    let place = c.args.place in
    let inv = c.loop-number.invariant in
    let begun = c.begin-more.new.self in
    let first = c.turn-count.new.self in
    let last = c.loop-number.self in
    let t : Turn = turn (phase old.align) (get_or bits place false) in
    let ms : List (List (List Bool)) = delivered_by old.align bits place in
    let line : List Bool = take place bits in
    let same : turn (phase begun.align) c.get.result ≡ t = same_turn old begun bits place c.get.result c.begin-more.ensures.same c.get.ensures in
    let count : c.turn-count.result ≡ t.gained.multiframes = c.turn-count.ensures.count ∙ ap (λ (t : Turn). t.gained.multiframes) same in
    let came : first.came ≡ begun.came = ap (λ (j : Judging). j.came) c.turn-count.ensures.same in
    let judged : first.judged ≡ old.judged = ap (λ (j : Judging). j.judged) c.turn-count.ensures.same ∙ ap (λ (j : Judging). j.judged) c.begin-more.ensures.same in
    let begun_counts : begun.align.counts.multiframes ≡ counted (multiframes_in line) = ap (λ (j : Judging). j.align.counts.multiframes) c.begin-more.ensures.same ∙ c.requires.stands.counts in
    let all : take c.loop-number.number ms ≡ ms = take_all c.loop-number.number ms (omega (arith, count_multiframes t.gained, count, c.loop-number-test.false)) in
    let S : E1Align → Type 0 = λ a. JudgingStands a last.came last.judged (take (place + 1) bits) in
    subst S (sym inv.align)
    (judging_push old.align old.came old.judged bits place c.requires.inside c.requires.stands first.align begun.came last.came last.judged
    (c.turn-count.ensures.phase ∙ ap (λ (t : Turn). t.phase) same)
    (c.turn-count.ensures.room ∙ ap (λ (j : Judging). j.align.held.capacity) c.begin-more.ensures.same ∙ c.requires.stands.room)
    (c.turn-count.ensures.counts line begun_counts ∙ ap (λ (t : Turn). counted (multiframes_in line + t.gained.multiframes)) same)
    c.begin-more.ensures.framed c.begin-more.ensures.unframed
    (omega (arith, inv.came, came, count, c.loop-number-test.false))
    (inv.judged ∙ ap (λ (j : Judged). with_multiframes j (drop (2 - first.came) (take c.loop-number.number ms))) judged
    ∙ ap (λ n. with_multiframes old.judged (drop (2 - n) (take c.loop-number.number ms))) came ∙ ap (λ (x : List (List (List Bool))). with_multiframes old.judged (drop (2 - begun.came) x)) all))
