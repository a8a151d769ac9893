-- The words written, as a copy among others.
use Rattle.std.proofs.Common.{◌≡◌, ◌∙◌, ◌+◌, ◌-◌, refl, length, rules, arith}
use Rattle.std.proofs.lemmas.Slice.{put_mid-paste}
use Rattle.std.proofs.lemmas.List.Edits.{paste_all}
use Rattle.records.specs.Output.{written}
use Rattle.resolution.proofs.graph.put_row.Goals as goal

pub returns : goal.returns
unfolding written
returns c =
    let n : length c.args.row.words ≡ 8 = search rules in
    put_mid-paste c.args.at (c.args.at + 8 - c.args.at) c.args.words.now c.copy_from_slice.new.self c.args.row.words (length c.args.row.words) c.copy_from_slice.ensures.after (omega arith) refl
    ∙ paste_all c.args.words.now c.args.at c.args.row.words (length c.args.row.words) refl
