-- Document 01's cases 1 to 5 and 10 over decoded values, a case of refusal 7, three of refusal 5 and four of hidden modules (U2), by
-- computation.
use mathlib.Core.Path.{◌≡◌, refl}
use mathlib.Core.Bool.{false}
use mathlib.Core.Option.{none, some}
use mathlib.Core.List.{List, [], ◌∷◌}
use Rattle.records.specs.Bytes.{same_bytes, before_bytes}
use Rattle.records.specs.Name.{java_base, mem_name}
use Rattle.records.specs.Descriptor.{Descriptor}
use Rattle.records.specs.Finder.{find_name, is_at, is_first}
use Rattle.records.specs.Request.{Request, is_permitted, within_limit, has_read}
use Rattle.records.specs.Order.{ordered, ordered_from, insert_name}
use Rattle.resolution.specs.Loop.{Result, failed}
use Rattle.resolution.specs.Owner.{owner}
use Rattle.resolution.specs.Resolution.{State, Refusal, module_not_found, java_base_not_found, split_package, root, required, resolve}
use Rattle.resolution.specs.Reads.{reads}
use Rattle.resolution.specs.Cases.{members_of, reads_of, owners_of, module_of, requirement, request, a, b, c, java_lang, base_module, cycle, page_core, page_foot, page_frames, foot_package, frame_package, pages}

-- one line opens all: what a definition's own line opens goes with it
run : List Descriptor → Request → Result State Refusal
unfolding resolve find_name is_at is_first same_bytes before_bytes mem_name is_permitted within_limit has_read ordered ordered_from insert_name owner reads members_of reads_of owners_of module_of requirement request a b c base_module cycle pages
run s rq = resolve s rq

-- (1) the listing: its modules, their reads, the owners
pub case1_modules : members_of (resolve pages (request (page_core ∷ []) none)) ≡ java_base ∷ page_core ∷ page_foot ∷ page_frames ∷ []
unfolding run
case1_modules = refl

pub case1_reads : reads_of (request (page_core ∷ []) none) (resolve pages (request (page_core ∷ []) none))
    ≡ (java_base, []) ∷ (page_core, java_base ∷ page_frames ∷ []) ∷ (page_foot, java_base ∷ page_frames ∷ []) ∷ (page_frames, java_base ∷ []) ∷ []
unfolding run
case1_reads = refl

pub case1_owners : owners_of (resolve pages (request (page_core ∷ []) none)) ≡ (java_lang, some java_base) ∷ (foot_package, some page_foot) ∷ (frame_package, some page_frames) ∷ []
unfolding run
case1_owners = refl

-- (2) the empty set: 6
pub case2 : resolve [] (request [] none) ≡ failed java_base_not_found
unfolding run
case2 = refl

-- (3) java.base alone, no root: one module
pub case3 : members_of (resolve (base_module ∷ []) (request [] none)) ≡ java_base ∷ []
unfolding run
case3 = refl

-- (4) that, root absent a: 5, of the first root
pub case4 : resolve (base_module ∷ []) (request (a ∷ []) none) ≡ failed (module_not_found a (root 0))
unfolding run
case4 = refl

-- (5) (4) with empty LM: accepted
pub case5 : members_of (resolve (base_module ∷ []) (request (a ∷ []) (some []))) ≡ java_base ∷ []
unfolding run
case5 = refl

-- (10) java.base, root a, a and b requiring each other transitively: both read themselves
pub case10 : reads_of (request (a ∷ []) none) (resolve cycle (request (a ∷ []) none)) ≡ (a, a ∷ b ∷ java_base ∷ []) ∷ (b, a ∷ b ∷ java_base ∷ []) ∷ (java_base, []) ∷ []
unfolding run
case10 = refl

pub case10_modules : members_of (resolve cycle (request (a ∷ []) none)) ≡ a ∷ b ∷ java_base ∷ []
unfolding run
case10_modules = refl

-- refusal 7: a has the packages c, b, a; b, which it requires, has c and b. The first in byte order is b, its owner a, the second b.
pub split-case : resolve (base_module ∷ module_of a (requirement b false ∷ []) [] [] (c ∷ b ∷ a ∷ []) ∷ module_of b [] [] [] (c ∷ b ∷ []) ∷ []) (request (a ∷ []) none)
    ≡ failed (split_package b a b)
unfolding run
split-case = refl

-- refusal 5 of a requirement: b is absent, requirement 0 of the module at position 1
pub required-case : resolve (base_module ∷ module_of a (requirement b false ∷ []) [] [] [] ∷ []) (request (a ∷ []) none) ≡ failed (module_not_found b (required 1 0))
unfolding run
required-case = refl

-- refusal 5 in a round, "permitted or not": b, bound to the service c, requires a, which is absent and not permitted
pub round-case : resolve (module_of java_base [] (c ∷ []) [] [] ∷ module_of b (requirement a false ∷ []) [] (c ∷ []) [] ∷ []) (request [] (some (b ∷ []))) ≡ failed (module_not_found a (required 1 0))
unfolding run
round-case = refl

-- and the same where a is a root: it was met and skipped before the rounds, and passes
pub round-met-case : members_of (resolve (module_of java_base [] (c ∷ []) [] [] ∷ module_of b (requirement a false ∷ []) [] (c ∷ []) [] ∷ []) (request (a ∷ []) (some (b ∷ []))))
    ≡ b ∷ java_base ∷ []
unfolding run
round-met-case = refl

-- the second b is hidden: its service is not provided, and where b is resolved, it is the first
pub hidden-case : members_of (resolve (base_module ∷ module_of a [] (c ∷ []) [] [] ∷ module_of b [] [] [] [] ∷ module_of b [] [] (c ∷ []) (c ∷ []) ∷ []) (request (a ∷ []) none)) ≡ a ∷ java_base ∷ []
unfolding run
hidden-case = refl

pub hidden-owner-case : owners_of (resolve (base_module ∷ module_of b [] [] [] (a ∷ []) ∷ module_of b [] [] [] (c ∷ []) ∷ []) (request (b ∷ []) none)) ≡ (a, some b) ∷ (java_lang, some java_base) ∷ []
unfolding run
hidden-owner-case = refl

-- the second a is hidden: its package is not shared with b, which has it
pub hidden_package_case : members_of (resolve (base_module ∷ module_of a (requirement b false ∷ []) [] [] [] ∷ module_of b [] [] [] (c ∷ []) ∷ module_of a [] [] [] (c ∷ []) ∷ []) (request (a ∷ []) none)) ≡ a ∷ b ∷ java_base ∷ []
unfolding run
hidden_package_case = refl

-- an a in a place in front hides the a that requires b: all modules of the set without it are there, and b is lost
pub front-case : members_of (resolve (module_of a [] [] [] [] ∷ base_module ∷ module_of a (requirement b false ∷ []) [] [] [] ∷ module_of b [] [] [] [] ∷ []) (request (a ∷ []) none)) ≡ a ∷ java_base ∷ []
unfolding run
front-case = refl
