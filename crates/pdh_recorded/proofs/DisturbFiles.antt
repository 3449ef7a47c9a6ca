-- What `disturb` comes to where no step refuses its inputs, and the port that it opens then.
use Rattle.std.proofs.Common.{◌≡◌, ℕ, zero, suc, ◌<◌, List, [], ◌∷◌, ◌++◌, true, Option, Some, length, map, take, slice_get, refl, ap, sym, subst, ◌∙◌, rules, arith, lit<}
use Rattle.std.specs.Prelude.{unwrap_or}
use Rattle.std.specs.Result.{result_unwrap_or}
use Rattle.std.proofs.lemmas.Option.{none-some, same_Some}
use Rattle.std.proofs.Math.Seq.{take-length}
use Rattle.pdh_bits.specs.Bits.{bits_of}
use Rattle.pdh_bits.proofs.BitsLemmas.{length-bits_of}
use Rattle.pdh_edge.specs.Files.{ShelfState, Told, Looks}
use Rattle.pdh_edge.specs.Files.Told.{Known}
use Rattle.pdh_chain.specs.declared.chain.Chain.{Chain}
use Rattle.pdh_blocks.specs.Lists.{inputs_of}
use Rattle.pdh_blocks.specs.Held.{AllDiffer}
use Rattle.pdh_answers.specs.Names.{name_of, line_name, bent_name, script_name}
use Rattle.pdh_recorded.specs.Disturb.{script_rows, bent, disturbing}
use Rattle.pdh_runner.specs.Operation.{AreTold, OfInputs, reaches_outputs, IsReadDue, Files, bytes_in}
use Rattle.pdh_runner.specs.Performing.{GoesOn}
use Rattle.pdh_runner.specs.PortFiles.{HasBits, AreFiles, AreRead, opened_for, input_name}
use Rattle.pdh_runner.specs.Running.{ArePrepared}
use Rattle.pdh_recorded.specs.DisturbSteps.{IsBendPlan, CanBend, IsBendPort}
use Rattle.pdh_recorded.specs.declared.disturbing.Plan.{Plan}
use Rattle.pdh_answers.specs.declared.file.File.{File}
use Rattle.pdh_answers.specs.declared.file.File.TheVariants.{Line, Bent}
use Rattle.pdh_runner.specs.declared.port.Input.{Input}
use Rattle.pdh_recorded.proofs.DisturbComes.{ready, script_found, line_told}
use Rattle.pdh_runner.proofs.Lengths.{length_is}
use Rattle.pdh_runner.proofs.OneInput.{held_of}
use Rattle.pdh_runner.proofs.Differing.{none_differ, one_more_differs}
use Rattle.pdh_answers.proofs.FileNames.{bent_is_not_line}
use Rattle.pdh_runner.proofs.PortOpen.{open_for, long_has, told_read, left_read, holds_read, holds_written}

-- the line's file, of which the port gives all bits
abbrev bend_input : Plan → Input
bend_input plan = record { file = Line; bits = plan.bits }

module _ (chain : Chain) (plan : Plan) (reads : List Input) (one : reads ≡ record { file = Line; bits = plan.bits } ∷ []) where
  first : slice_get reads 0 ≡ Some (bend_input plan)
  first = ap (λ (all : List Input). slice_get all 0) one

  the_line : (k : ℕ) (input : Input) → slice_get reads k ≡ Some input → input ≡ bend_input plan
  the_line k input here = go k (ap (λ (all : List Input). slice_get all k) (sym one) ∙ here)
    where
      go : (k : ℕ) → slice_get (bend_input plan ∷ []) k ≡ Some input → input ≡ bend_input plan
      go zero here = sym (same_Some _ _ here)
      go (suc k) here = absurd (none-some input here)

  -- the line is read in the run, and due there
  pub bend_reads : (a : ShelfState) → GoesOn (disturbing chain) a → AreRead (disturbing chain) a reads
  bend_reads a goes_on = record {
    input = λ k input here. (0, lit< tt, ap input_name (the_line k input here));
    in_run = λ k input here. subst (λ (input : Input). (disturbing chain).reads_in_run input.file ≡ true) (sym (the_line k input here)) refl;
    due = λ k input here. subst (λ (input : Input). OfInputs (disturbing chain) a (IsReadDue (disturbing chain) input.file)) (sym (the_line k input here)) goes_on;
  }

  module _ (writes : List File) (out : writes ≡ Bent ∷ []) where
    -- the files are there, and their names differ
    pub bend_files : (b : ShelfState) → IsBendPlan chain plan b → AreFiles b reads writes
    bend_files b is = record {
      has = λ k input here. subst (λ (input : Input). HasBits (input_name input) input.bits b) (sym (the_line k input here)) (long_has line_name is.sizes.line plan.bits b is.has.line (omega (arith, is.bits_are)));
      differ = subst (λ (reads : List Input). AllDiffer (map input_name reads ++ map name_of writes)) (sym one) (subst (λ (writes : List File). AllDiffer (line_name ∷ map name_of writes)) (sym out)
          (one_more_differs line_name (bent_name ∷ []) (one_more_differs bent_name [] none_differ (λ k here. none-some bent_name here)) apart));
      few = omega (arith, ap length one, ap length out);
    }
      where
        apart : (k : ℕ) → slice_get (bent_name ∷ []) k ≡ Some line_name → ⊥
        apart zero here = bent_is_not_line (same_Some _ _ here)
        apart (suc k) here = none-some line_name here

    told_now : (a b : ShelfState) (files : Files) → Looks a b → AreTold (disturbing chain) a.told files → AreTold (disturbing chain) b.told files
    told_now a b files looks told = subst (λ (t : List ℕ → Told). AreTold (disturbing chain) t files) (sym looks.told) told

    -- the port is open for `disturb`
    pub bend_port : (a b : ShelfState) → Looks a b → b.counts ≡ a.counts → IsBendPlan chain plan b → IsBendPort chain plan.script a (opened_for b reads writes)
    bend_port a b looks same is = record {
      open_for = open_for (disturbing chain) a b reads writes looks same goes_on (ap length out) named;
      comes = comes;
      rows_are = λ files told.
          let now = told_now a b files looks told in
          let long = length_is b line_name is.sizes.line files is.has.line (line_told chain b files now) in
          ap (λ n. result_unwrap_or (script_rows n (bytes_in files script_name)) []) long ∙ ap (λ r. result_unwrap_or r []) (script_found chain b is.sizes plan.script files is.has is.script_is now);
      gives = λ files told. all_bits files (files line_name) refl (line_told chain b files (told_now a b files looks told));
    }
      where
        comes : OfInputs (disturbing chain) a (λ files. (disturbing chain).comes_to files ≡ bent chain (bytes_in files line_name) plan.script)
        comes files told =
            let found = ready chain b is.sizes plan.script files is.has is.script_is (told_now a b files looks told) in
            found.1 ∙ ap (λ (h : Option (List ℕ)). bent chain (unwrap_or h []) plan.script) (sym found.0.line_is)

        goes_on : GoesOn (disturbing chain) a
        goes_on files told = ap reaches_outputs (comes files told)

        named : (k : ℕ) → k < 1 → slice_get (map name_of writes) k ≡ Some bent_name
        named zero low = ap (λ (all : List File). slice_get (map name_of all) 0) out
        named (suc k) low = absurd (omega arith)

        all_bits : (files : Files) (held : Option (List ℕ)) → files line_name ≡ held → b.told line_name ≡ Known (files line_name) → (inputs_of (opened_for b reads writes)).told 0 ≡ Some (bits_of (bytes_in files line_name))
        all_bits files held e known =
            let found = held_of is.sizes.line (files line_name) (is.has.line.told (files line_name) known) in
            let all : plan.bits ≡ length (bits_of found.0) = omega (arith, is.bits_are, found.2, length-bits_of found.0) in
            told_read b reads writes 0 (bend_input plan) found.0 first (known ∙ ap Known found.1)
            ∙ ap (λ n. Some (take n (bits_of found.0))) all ∙ ap Some (take-length (bits_of found.0)) ∙ ap (λ (h : Option (List ℕ)). Some (bits_of (unwrap_or h []))) (sym found.1)

    -- its lists are the line and what becomes of it
    bend_lists : (b : ShelfState) → IsBendPlan chain plan b → CanBend plan (opened_for b reads writes)
    bend_lists b is = record {
      fresh = refl;
      few = let bits = is.bits_are in let few = is.has.few in search rules;
      fit = is.fit;
      line = record { holds = holds_read b reads writes 0 1 (ap length one) (lit< tt); left = left_read b reads writes 0 (bend_input plan) first };
      out = holds_written b reads writes 0 1 (ap length out) (lit< tt);
    }

    pub bend_prepared : (b : ShelfState) → IsBendPlan chain plan b → ArePrepared (disturbing chain) (CanBend plan) (IsBendPort chain plan.script) b reads writes
    bend_prepared b is = record {
      files = bend_files b is;
      port = bend_lists b is;
      given = λ begun looks same.
          let port = bend_port begun b looks same is in
          record { open_for = port.open_for; due = bend_reads begun port.open_for.goes_on; alone = tt };
      lists = λ begun looks same. bend_port begun b looks same is;
    }
