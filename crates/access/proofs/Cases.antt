-- The ten cases.
use Prim.Native.Nat.{ℕ}
use mathlib.Core.Path.{◌≡◌, refl}
use mathlib.Core.Bool.{true}
use mathlib.Core.List.{List}
use Rattle.records.specs.Bytes.{same_bytes, u16_at}
use Rattle.records.specs.Name.{printable, name_of, after_name, is_field, is_name, is_empty, is_names, is_list, is_version, is_name_version, is_name_list, mem_name, names_of, list_of}
use Rattle.records.specs.Record.{mark_of, size_of, body_of, record_more, whole, records_from, records, mark_for, set_kind, request_kind, kind_in, is_module, is_requires, is_body, is_of, bodies_in, bodies}
use Rattle.records.specs.Descriptor.{has_flag, requirement_of, entry_of, module_name, header_of, descriptor_of, is_target, reaches}
use Rattle.records.specs.Request.{same_kind, row_of, row_on, check_records_from, check_records, then_request, check_inputs, read_of, grant_of, limit_of, has_any, request_of, within_limit, is_permitted, has_read, has_grant}
use Rattle.records.specs.Set.{body_at, name_at, is_placed, admit_at, pass_at, judge_at, table_of, accepted, go_on, check_from, check_set, up_to_next, blocks_of, blocks, modules, count_of}
use Rattle.records.specs.Finder.{find_name, find_module, is_at, is_first}
use Rattle.records.specs.Set.{CountAnswer}
use Rattle.records.proofs.automatic.Cases.{case_6, case_6_name, case_7, case_8}
use Rattle.resolution.specs.Lists.{Name}
use Rattle.resolution.specs.Configuration.{with_words, member_words, row_words, member_bit, edge_bit, unnamed_bit, rows_from, words_of}
use Rattle.resolution.specs.Resolve.{member_at, edge_at, unnamed_at, configuration_of, refused, told, answered, resolve}
use Rattle.resolution.specs.Resolution as Resolution
use Rattle.resolution.specs.Positions.{is_visible}
use Rattle.resolution.specs.Observed.{has_member, has_edge, has_unnamed_edge}
use Rattle.resolution.specs.Row.{bit, holds, one, bits_from, words_from, words}
use Rattle.resolution.specs.Graph.{edge, ninth, unnamed_edge}
use Rattle.resolution.specs.Reads.{reads}
use Rattle.resolution.specs.Cases.{a, b, c}
use Rattle.resolution.proofs.ByteCases.{byte_case1, byte_case2, byte_case3, byte_case4, byte_case5, byte_case10}
use Rattle.access.specs.Access.{passes, is_member, edge_to, is_reader, reads_name, resolved_module, is_reflection, entries_of, grants_of, denied, grants, granted, named_verdict, unnamed_granted, unnamed_verdict, verdict, answered as answered_access, check_access}
use Rattle.access.specs.Cases.{exports_set, root_c, p, lent, resolved_to, TenCases}
use Rattle.access.specs.declared.access.AccessKind.{AccessKind}
use Rattle.access.specs.declared.access.AccessKind.TheVariants.{Access}
use Rattle.access.specs.Access.{AccessAnswer}
use Rattle.access.specs.declared.access.AccessCheckResult.TheVariants.{NotExported}
use Rattle.std.specs.Prelude.{Ok}

-- one line opens all that decoding and the checks compute
unfoldable pub compute : List ℕ → List ℕ → CountAnswer
unfolding check_inputs then_request check_records check_records_from row_on row_of same_kind kind_in request_kind check_set check_from go_on judge_at pass_at admit_at is_placed accepted table_of name_at body_at module_name mem_name is_body is_module is_requires is_name_list is_name_version is_version is_list is_names is_name is_field is_empty after_name name_of printable set_kind records records_from whole record_more body_of size_of mark_of u16_at same_bytes modules blocks blocks_of up_to_next is_of mark_for descriptor_of header_of bodies bodies_in has_flag requirement_of entry_of names_of list_of limit_of read_of grant_of has_any request_of within_limit is_permitted has_read has_grant is_target reaches find_name find_module is_at is_first p a b c
compute s q = (count_of (check_inputs s q))

-- and one all that resolution and a question do
unfoldable pub ask : AccessKind → List ℕ → List ℕ → Name → Name → Name → AccessAnswer
unfolding compute lent with_words member_words row_words member_bit edge_bit unnamed_bit rows_from words_of bits_from words_from words member_at edge_at unnamed_at configuration_of refused told answered resolve Resolution.resolve bit holds one edge ninth unnamed_edge reads has_member has_edge has_unnamed_edge is_visible passes is_member edge_to is_reader reads_name resolved_module entries_of grants_of denied grants granted named_verdict unnamed_granted unnamed_verdict verdict answered_access check_access
ask kind s q asker target pkg = check_access (is_reflection kind) s q (resolved_to s q) asker target pkg

case9_reads : reads_name exports_set (resolved_to exports_set root_c) c a ≡ true
unfolding ask exports_set root_c
case9_reads = refl

case9 : check_access (is_reflection Access) exports_set root_c (resolved_to exports_set root_c) c a p ≡ Ok NotExported
unfolding ask exports_set root_c
case9 = refl

pub ten_cases : TenCases
ten_cases = record {
  case1 = byte_case1.outcome;
  case1_modules = byte_case1.modules_are;
  case1_reads = byte_case1.reads_are;
  case1_owners = byte_case1.owners_are;
  case2 = byte_case2;
  case3 = byte_case3.outcome;
  case3_modules = byte_case3.modules_are;
  case4 = byte_case4;
  case5 = byte_case5.outcome;
  case6 = case_6;
  case6_name = case_6_name;
  case7 = case_7;
  case8 = case_8;
  case9_reads = case9_reads;
  case9 = case9;
  case10 = byte_case10.outcome;
  case10_reads = byte_case10.reads_are;
}
