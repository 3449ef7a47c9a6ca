use Rattle.std.proofs.Common.{List, Bool, ap, sym, ◌∙◌}
use Rattle.pdh_looking.specs.Levels.{all_stand}
use Rattle.pdh_looking.proofs.Fitting.{top_told, fits_not_by_top, fits_not_by_c_bits, fits_by_levels}
use Rattle.pdh_looking.proofs.reading.Reading.fits.Goals as goal

pub returns-then-not-at_top : goal.returns-then-not-at_top
returns-then-not-at_top c =
    let line : List Bool = c.args.self.now.line.bits in
    let told = top_told c.args.word line c.of-top.result _ _ _ _ c.of-top.ensures c.len.ensures c.len-2.ensures.count c.judged.ensures c.at_top.ensures in
    sym (fits_not_by_top c.args.word line (told ∙ c.if-not-at_top.true))

pub returns-then-not-branch : goal.returns-then-not-branch
returns-then-not-branch c =
    let line : List Bool = c.args.self.now.line.bits in
    let told = top_told c.args.word line c.of-top.result _ _ _ _ c.of-top.ensures c.len.ensures c.len-2.ensures.count c.judged.ensures c.at_top.ensures in
    sym (fits_not_by_c_bits c.args.word line (told ∙ c.if-not-at_top.false) (sym c.in_ok-has_its_c_bits.ensures ∙ c.if-not-branch.true))

pub returns : goal.returns
returns c =
    let line : List Bool = c.args.self.now.line.bits in
    let told = top_told c.args.word line c.of-top.result _ _ _ _ c.of-top.ensures c.len.ensures c.len-2.ensures.count c.judged.ensures c.at_top.ensures in
    c.each_stands.ensures ∙ ap all_stand (c.deref.ensures.value ∙ c.in_ok-levels.ensures)
    ∙ sym (fits_by_levels c.args.word line (told ∙ c.if-not-at_top.false) (sym c.in_ok-has_its_c_bits.ensures ∙ c.if-not-branch.false))
