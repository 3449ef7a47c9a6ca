-- What `e1pack` and `ds1pack` wrote is the packed line of their payload.
use Rattle.std.specs.Prelude.{◌≡◌, ℕ, ◌<◌, List, All, ⊤, Option, Some}
use Rattle.pdh_e1.specs.Codec.{IsPacked}
use Rattle.pdh_ds1.specs.Codec.{IsPacked as IsDs1Packed}
use Rattle.pdh_edge.specs.Files.{ShelfState}
use Rattle.pdh_edge.specs.Files.Told.{Known}
use Rattle.pdh_answers.specs.Names.{payload_name, e1_name, ds1_name}
use Rattle.pdh_runner.specs.Operation.{AreTold, Files, bytes_in}
use Rattle.pdh_words.specs.declared.commands.Command.{Command}
use Rattle.pdh_words.specs.declared.commands.Command.TheVariants.{E1Pack, Ds1Pack}
use Rattle.pdh_streams.specs.Codecs.{packing}
use Rattle.pdh_streams.specs.E1.{e1_codec}
use Rattle.pdh_streams.specs.Ds1.{ds1_codec}

-- After status 0 of `e1pack` the line is whole right multiframes that carry the payload, without alarm and with ones in the Sa
-- and E bits. After that of `ds1pack` it is whole right superframes that carry the payload, which are octets, with ones in the
-- data link.
abbrev pub Packs : Option Command → ShelfState → ShelfState → ℕ → Type 0
Packs (Some E1Pack) old new status =
    (files : Files) (line : List ℕ) → AreTold (packing e1_codec) old.told files → new.told e1_name ≡ Known (Some line) → status ≡ 0 → IsPacked (bytes_in files payload_name) line
Packs (Some (Ds1Pack form)) old new status =
    (files : Files) (line : List ℕ) → AreTold (packing (ds1_codec form)) old.told files → new.told ds1_name ≡ Known (Some line) → status ≡ 0
    → All (λ octet. octet < 256) (bytes_in files payload_name) → IsDs1Packed form (bytes_in files payload_name) line
Packs _ old new status = ⊤
