use Rattle.class_reader.proofs.class_file.Reading.{table-few}
use borrow.Author.Rules.{rules}
use Rattle.class_reader.proofs.class_file.read_constants.Goals as goal

pub read_pool-requires-clause-table_value : goal.read_pool-requires-clause-table_value
read_pool-requires-clause-table_value c = search (table-few, rules)
