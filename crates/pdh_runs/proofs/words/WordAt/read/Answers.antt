use Rattle.std.proofs.Common.{◌<◌, ◌-◌, ◌++◌, Bool, List, false, take, drop, replicate, refl, ap, ◌∙◌, arith}
use Rattle.pdh_packed.specs.Words.{low_bits}
use Rattle.pdh_runs.proofs.WordLaws.{both_read, read_at, read_whole}
use Rattle.pdh_runs.proofs.words.WordAt.read.Goals as goal

pub returns-then-self-eq64 : goal.returns-then-self-eq64
returns-then-self-eq64 c =
    let frame : List Bool = c.args.frame.now.bits in
    read_whole c.args.self.now c.read_filled-front.result frame (omega (arith, c.if-self-eq64.true)) (c.read_filled-front.ensures ∙ ap (λ n. take 64 (drop n frame ++ replicate 64 false)) c.from.ensures)

pub returns : goal.returns
returns c =
    let at = c.args.self.now in
    let frame : List Bool = c.args.frame.now.bits in
    let front = c.read_filled-front.result in
    let behind = c.read_filled-behind.result in
    let few : at.first < 64 = omega (arith, c.requires.1, c.if-self-eq64.false) in
    read_at at front behind _ frame few (c.read_filled-front.ensures ∙ ap (λ n. take 64 (drop n frame ++ replicate 64 false)) c.from.ensures)
    (c.read_filled-behind.ensures ∙ ap (λ n. take 64 (drop n frame ++ replicate 64 false)) c.from-2.ensures)
    (both_read front behind c.from-first.result _ (omega (arith, c.requires.0, c.from-first.ensures)) (omega (arith, few, c.from-first.ensures)) c.read_filled-front.type_inv c.read_filled-behind.type_inv refl
    ∙ ap (λ n. take n (low_bits 64 front) ++ take (64 - n) (low_bits 64 behind)) c.from-first.ensures)
