use Rattle.std.proofs.Common.{◌≡◌, ◌+◌, ◌++◌, length, length-append, ap, sym, ◌∙◌, arith}
use Rattle.pdh_watch.proofs.KindNames.{first_names, name_added, names_push, names_room, fits_line, names_all}
use Rattle.pdh_watch.proofs.names.append_names.Goals as goal

pub append_name-requires : goal.append_name-requires
append_name-requires c =
    let long : length c.loop-i.text ≡ length c.args.text.now + length (first_names c.args.set c.loop-i.i) = ap length c.loop-i.invariant.named ∙ length-append c.args.text.now (first_names c.args.set c.loop-i.i) in
    fits_line (λ flag. (flag.name.now, flag.value.0)) c.args.set c.flags-flags.result.now c.loop-i.i _ (c.flags-flags.ensures tt) c.loop-i-test.true c.args.text.now c.loop-i.text long c.requires

pub loop-i-preserved : goal.loop-i-preserved
loop-i-preserved c = record {
  named = c.append_name.ensures
      ∙ name_added c.args.set c.args.text.now (first_names c.args.set c.loop-i.i) c.loop-i.text _ _ _ c.loop-i.invariant.start c.loop-i.invariant.named
      ∙ ap (λ v. c.args.text.now ++ v) (sym (names_push (λ flag. (flag.name.now, flag.value.0)) c.args.set c.flags-flags.result.now c.loop-i.i _ (c.flags-flags.ensures tt) c.loop-i-test.true));
  start = c.loop-i.invariant.start;
}

pub returns-clause-bytes : goal.returns-clause-bytes
returns-clause-bytes c = c.loop-i.invariant.named ∙ ap (λ v. c.args.text.now ++ v) (names_all (λ flag. (flag.name.now, flag.value.0)) c.args.set c.flags-flags.result.now c.loop-i.i (c.flags-flags.ensures tt) c.loop-i-test.false)

pub returns-clause-len : goal.returns-clause-len
returns-clause-len c =
    let long : length c.loop-i.text ≡ length c.args.text.now + length (first_names c.args.set c.loop-i.i) = ap length c.loop-i.invariant.named ∙ length-append c.args.text.now (first_names c.args.set c.loop-i.i) in
    omega (arith, long, names_room c.args.set c.loop-i.i)
