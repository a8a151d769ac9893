-- The cases of the rules that the ten do not pin, by computation.
use Prim.Native.Nat.{ℕ}
use mathlib.Core.Path.{refl}
use mathlib.Core.List.{List}
use Rattle.records.specs.Bytes.{before_bytes}
use Rattle.records.specs.Record.{package_kind, nth_in, begins, first_in}
use Rattle.records.specs.Set.{enter_at, places_at, block_at}
use Rattle.records.specs.Places.{up_to_place, behind_places, places_of, places}
use Rattle.records.specs.Finder.{found_from, visible_blocks}
use Rattle.records.specs.Error.{input_number, number_of, particulars_of}
use Rattle.records.specs.Automatic.{is_digit, is_letter, is_alphanumeric, is_start, has_byte, after_last, file_name, without_jar, starts_version, has_version, without_version, dotted_from, dotted, trim_front, trim_end, trimmed, derived_name, is_rest, is_part, in_front, parts_of, all_parts, is_module_name, validated, derived}
use Rattle.records.specs.Order.{insert_name, ordered_from, ordered, packages_of}
use Rattle.records.specs.Output.{written, two_bytes, record_bytes, name_bytes, module_record, base_record, group, automatic_records}
use Rattle.records.specs.Jar.{name_for, named_for, records_for, fitted, then_name, then_packages, jar_answer, output_after}
use Rattle.resolution.specs.Lists.{Name}
use Rattle.resolution.specs.Resolve.{body_start, start_in, records_at, absent_of, split_of, error_of}
use Rattle.resolution.specs.Absent.{absent_name}
use Rattle.resolution.specs.PackageOwner.{owner_in, find_module_for_package}
use Rattle.access.specs.CanRead.{can_read}
use Rattle.access.specs.Form.{MO, MO_open, MO_automatic, RQ, RQ_transitive, RQ_static, EX, OP, US, PV, PK, MC, PL, RT, LM, ST, AR, AE, AO}
use Rattle.access.specs.PlaceCases.{q}
use Rattle.access.specs.ReadGraph.{reads_at, step, then, readers_of, transitive_reads}
use Rattle.access.specs.RuleCases.{s, t, base, beside, requiring, chain, chain_broken, services, sharing, PL7, jar_name, jar_module, jar_records, access, RuleCases}
use Rattle.access.specs.Access.{AccessAnswer}
use Rattle.access.proofs.Cases.{ask}
use Rattle.access.proofs.PlaceCases.{place-cases}

-- one line opens all: resolution and questions, the forms, the sets, the particulars of refusals, places, and the jar reader
unfoldable pub compute : List ℕ → List ℕ → Name → Name → Name → AccessAnswer
unfolding ask MO MO_open MO_automatic RQ RQ_transitive RQ_static EX OP US PV PK MC PL RT LM ST AR AE AO q s t base beside requiring chain chain_broken services sharing PL7 jar_name jar_module jar_records can_read reads_at readers_of find_module_for_package owner_in transitive_reads absent_name body_start start_in records_at absent_of split_of error_of nth_in begins first_in block_at enter_at places_at up_to_place behind_places places_of places found_from visible_blocks input_number number_of particulars_of package_kind before_bytes is_digit is_letter is_alphanumeric is_start has_byte after_last file_name without_jar starts_version has_version without_version dotted_from dotted trim_front trim_end trimmed derived_name is_rest is_part in_front parts_of all_parts is_module_name validated derived insert_name ordered_from ordered packages_of written two_bytes record_bytes name_bytes module_record base_record group automatic_records name_for named_for records_for fitted then_name then_packages jar_answer output_after
compute set rq asker target pkg = access set rq asker target pkg

pub rule_cases : RuleCases
unfolding compute
rule_cases = record {
  words_short = refl;
  words_enough = refl;
  words_before_resolution = refl;
  words_after_set = refl;
  words_after_request = refl;
  words_beyond = refl;
  words_kept = refl;
  words_short_kept = refl;
  words_asked = refl;
  words_asked_after = refl;
  words_read = refl;
  words_read_after = refl;
  words_readers = refl;
  words_transitive = refl;
  words_owner = refl;
  words_laid = refl;
  words_rest = refl;
  words_of_others = refl;
  words_second = refl;
  words_last_edge = refl;
  words_last = refl;
  words_ninth = refl;
  words_ninth_odd = refl;
  add_read = refl;
  add_read_back = refl;
  add_read_none = refl;
  add_read_unresolved = refl;
  add_read_members = refl;
  add_read_of_unresolved = refl;
  add_read_unnamed = refl;
  add_read_unnamed_asked = refl;
  add_read_unnamed_not = refl;
  automatic_reads = refl;
  automatic_reads_itself = refl;
  automatic_reads_unnamed = refl;
  automatic_reads_back = refl;
  reads_own = refl;
  reads_own_unresolved = refl;
  reads_base = refl;
  reads_base_itself = refl;
  reads_implied = refl;
  reads_implied_twice = refl;
  reads_not_implied = refl;
  reads_not_from_added = refl;
  reads_not_through = refl;
  reads_from_base = refl;
  edge_counts = refl;
  edge_of_non_member = refl;
  edge_to_non_member = refl;
  one_edge = step refl;
  two_edges = then {j = 2} (step refl) refl;
  transitive = refl;
  transitive_unnamed = refl;
  transitive_none = refl;
  readers = refl;
  can_read_lem = refl;
  can_read_back = refl;
  can_read_base = refl;
  can_read_itself = refl;
  can_read_unknown = refl;
  not_static_absent = refl;
  not_static_name = refl;
  absent_not_reached = refl;
  limit_accepted = refl;
  limit_members = refl;
  limit_none = refl;
  limit_absent = refl;
  limit_behind = refl;
  second_round = refl;
  provider_not_permitted = refl;
  provider_not_used = refl;
  providers_in_order = refl;
  round_absent = refl;
  round_met = refl;
  roots_repeated = refl;
  base_first = refl;
  base_root = refl;
  base_absent = refl;
  queue-requires = refl;
  queue_root_first = refl;
  queue_first_record = refl;
  split = refl;
  split_words = refl;
  split_back = refl;
  split_first = refl;
  split_before_absent = refl;
  split_not_resolved = refl;
  itself = refl;
  itself_unknown = refl;
  itself_unnamed = refl;
  not_readable = refl;
  base_readable = refl;
  exported = refl;
  exported_not_opened = refl;
  opened_not_exported = refl;
  opened = refl;
  target = refl;
  other_target = refl;
  other_target_unnamed = refl;
  first_opens = refl;
  add_export = refl;
  add_export_not_open = refl;
  add_open_not_export = refl;
  add_open = refl;
  add_export_package = refl;
  add_export_source = refl;
  add_export_other_source = refl;
  add_export_target = refl;
  add_export_to_unnamed = refl;
  add_export_unread = refl;
  open_package = refl;
  open_entry = refl;
  open_access = refl;
  open_unnamed = refl;
  open_unnamed_entry = refl;
  not_open_package = refl;
  not_open_entry = refl;
  other_flags = refl;
  other_flags_open = refl;
  other_flags_required = refl;
  other_flags_static = refl;
  other_flags_implied = refl;
  automatic_package = refl;
  automatic_reflection = refl;
  automatic_entry = refl;
  automatic_override = refl;
  unnamed_automatic = refl;
  unnamed_automatic_reflection = refl;
  unnamed_automatic_override = refl;
  unnamed_automatic_open = refl;
  unnamed_package = refl;
  unnamed_override = refl;
  unnamed_override_open = refl;
  unnamed_override_kind = refl;
  unnamed_override_target = refl;
  unnamed_override_package = refl;
  unnamed_override_source = refl;
  unnamed_entry = refl;
  unnamed_named = refl;
  unnamed_not_named = refl;
  unnamed_first_entry = refl;
  unnamed_opened = refl;
  unnamed_exported = refl;
  unnamed_unresolved = refl;
  unnamed_unresolved_override = refl;
  unnamed_unresolved_open = refl;
  unnamed_absent = refl;
  at_unnamed_override = refl;
  numbers = refl;
  returned = refl;
  inputs = refl;
  set_offset = refl;
  set_cut = refl;
  set_before_request = refl;
  request_offset = refl;
  request_cut = refl;
  request_before_absent = refl;
  question_refused = refl;
  question_answered = refl;
  repeated = refl;
  repeated_unnamed = refl;
  front_to_back = refl;
  requires_unnamed = refl;
  starts_with = refl;
  main_twice = refl;
  main_of_each = refl;
  limit_twice = refl;
  body_left = refl;
  body_short = refl;
  body_past_end = refl;
  body_of_256 = refl;
  name_empty = refl;
  name_bytes_lem = refl;
  name_low = refl;
  name_high = refl;
  automatic_byte = refl;
  version_given = refl;
  version_missing = refl;
  list_count = refl;
  jar_name_lem = refl;
  jar_name_folders = refl;
  jar_name_ending = refl;
  jar_name_letters = refl;
  jar = record { answer = refl; output = refl };
  jar_manifest = record { answer = refl; output = refl };
  jar_short = record { answer = refl; output = refl };
  jar_offset = record { answer = refl; output = refl };
  jar_nothing_left = record { answer = refl; output = refl };
  jar_bad_name = record { answer = refl; output = refl };
  again = refl;
  twice = refl;
  eight = refl;
  ninth = refl;
  eight_bare = refl;
  ninth_bare = refl;
  stray = refl;
  stray_behind = refl;
  filled = refl;
  parts = refl;
  seen = refl;
  bare = refl;
  none = refl;
  hiding = place-cases;
}
