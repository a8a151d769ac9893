-- What a table of modules tells.
use Rattle.std.specs.Prelude.{List}
use Rattle.resolution.specs.Lists.{Name}
use Rattle.resolution.specs.Readability.{table_names}
use Rattle.resolution.specs.declared.module_table.ModuleTable.{ModuleTable}

-- the names of the modules, in order
abbrev pub names_in : ModuleTable → List Name
names_in table = table_names table.set.now table.starts.now table.count
