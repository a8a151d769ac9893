use Rattle.host.proofs.reader.Laws.{jar_told}
use Rattle.host.proofs.reader.saqhovune_automatic_from_jar_name.Goals as goal

pub returns : goal.returns
returns c = jar_told _ _ c.args.manifest _ _ _ _ _ _ _ c.then_some.ensures c.automatic_from_jar_name.ensures c.tell_number.ensures
