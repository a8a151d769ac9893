-- The cases of class files, by computation.
use Prim.Native.Nat.{ℕ}
use mathlib.Core.Path.{refl}
use mathlib.Core.List.{List}
use Rattle.records.specs.Bytes.{same_bytes, before_bytes, u16_at}
use Rattle.records.specs.Name.{printable}
use Rattle.records.specs.Record.{mark_for}
use Rattle.records.specs.Order.{insert_name, ordered_from, ordered}
use Rattle.records.specs.Output.{written, two_bytes, record_bytes, name_bytes}
use Rattle.records.specs.Jar.{fitted, output_after}
use Rattle.records.specs.Jar.{Written}
use Rattle.class_reader.specs.Pool.{tag_at, width_at, takes_two, is_defined, is_constant, pool_from, offsets_from, pool_count, pool_end, pool_of, is_tag, text_at, is_name_text, has_text, name_index, has_name, name_at, has_version, version_at}
use Rattle.class_reader.specs.Entry.{names_good, names_at, name_tag, entry_end, rest_good, is_entry, kind_of, high_flags, prefix_of, names_bytes, list_bytes, suffix_of, entry_body, entry_item, bytes_of, is_large, entries_good, entries_end, entries_items, table_good, table_end, table_items, tables_good, tables_end, tables_items, module_tables}
use Rattle.class_reader.specs.Attribute.{attribute_end, attribute_named, attribute_at, contents_good, seen_at, see, attribute_good, fault_unless, end_faults, attribute_faults, seen_from, module_items, package_names, package_item, package_items, main_items, descriptor_items}
use Rattle.class_reader.specs.ClassFile.{head_good, is_module_info, fields_good, faults_behind, faults_from, faults, lowest, seen_behind, items_from, items_of, sized, then_faults, class_answer}
use Rattle.class_reader.specs.Cases.{small_pool, plain, smallest, smallest_records, full_pool, full_module, full, full_records, ClassCases}

-- one line opens all that the definition of the answer and of the output computes
compute : List ℕ → ℕ → Written
unfolding same_bytes before_bytes u16_at printable mark_for insert_name ordered_from ordered written two_bytes record_bytes name_bytes fitted output_after tag_at width_at takes_two is_defined is_constant pool_from offsets_from pool_count pool_end pool_of is_tag text_at is_name_text has_text name_index has_name name_at has_version version_at names_good names_at name_tag entry_end rest_good is_entry kind_of high_flags prefix_of names_bytes list_bytes suffix_of entry_body entry_item bytes_of is_large entries_good entries_end entries_items table_good table_end table_items tables_good tables_end tables_items module_tables attribute_end attribute_named attribute_at contents_good seen_at see attribute_good fault_unless end_faults attribute_faults seen_from module_items package_names package_item package_items main_items descriptor_items head_good is_module_info fields_good faults_behind faults_from faults lowest seen_behind items_from items_of sized then_faults class_answer small_pool plain smallest smallest_records full_pool full_module full full_records
compute f room = class_answer f room

pub class_cases : ClassCases
unfolding compute
class_cases = record {
  small = record { answer = refl; output = refl };
  whole = record { answer = refl; output = refl };
  short = record { answer = refl; output = refl };
  magic = record { answer = refl; output = refl };
  version = record { answer = refl; output = refl };
  double = record { answer = refl; output = refl };
  constant = record { answer = refl; output = refl };
  tag = record { answer = refl; output = refl };
  dynamic = record { answer = refl; output = refl };
  dynamic_defined = record { answer = refl; output = refl };
  flags = record { answer = refl; output = refl };
  this_class = record { answer = refl; output = refl };
  this_name = record { answer = refl; output = refl };
  super_class = record { answer = refl; output = refl };
  interface_count = record { answer = refl; output = refl };
  field_count = record { answer = refl; output = refl };
  method_count = record { answer = refl; output = refl };
  index = record { answer = refl; output = refl };
  name = record { answer = refl; output = refl };
  empty_version = record { answer = refl; output = refl };
  requires_unnamed = record { answer = refl; output = refl };
  second = record { answer = refl; output = refl };
  missing = record { answer = refl; output = refl };
  missing_skipped = record { answer = refl; output = refl };
  left_over = record { answer = refl; output = refl };
  lowest = record { answer = refl; output = refl };
}
