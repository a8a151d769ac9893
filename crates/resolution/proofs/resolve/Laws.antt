-- What each return of `resolve` shows.
use Prim.Native.Nat.{ℕ, ◌≤◌, ◌<◌}
use mathlib.Core.Path.{◌≡◌, refl, sym, ◌∙◌, ap, subst}
use mathlib.Core.Bool.{Bool, true, false}
use mathlib.Core.List.{List}
use lib.Dec.{ltb}
use lib.ListN.{length, take}
use borrow.Author.Tests.{ltb-true, ltb-false}
use Rattle.records.specs.Request.{request_of, check_inputs}
use Rattle.records.specs.Set.{check_set, modules, count_of}
use Rattle.records.specs.declared.error.ModuleError.{ModuleError}
use Rattle.records.specs.declared.error.ModuleError.TheVariants.{TooLarge, OutputTooShort}
use Rattle.records.specs.declared.set.Checked.{Checked}
use Rattle.records.proofs.Logic.{clash}
use Rattle.records.proofs.sorted.Index.{indexed-none}
use Rattle.records.proofs.request.Laws.{inputs_long}
use Rattle.records.proofs.set.Blocks.{good-set}
use Rattle.resolution.specs.Loop.{Result, failed, done}
use Rattle.resolution.specs.Resolution.{State, Refusal}
use Rattle.resolution.specs.Resolution as Resolution
use Rattle.resolution.specs.Resolve.{refused, error_of, told, answered, resolve}
use Rattle.resolution.specs.Resolver.{Line, line_at, start_on, resolve_at}
use Rattle.resolution.specs.Configure.{PermittedRow, Configured}
use Rattle.resolution.specs.Resolve.{Outcome}
use Rattle.resolution.specs.declared.resolver.Halt.{Halt}
use Rattle.resolution.specs.declared.resolver.Queue.{Queue}
use Rattle.resolution.proofs.ConfigurationWords.{with-refused, with-few, with_enough}
use Rattle.resolution.proofs.ResolverRun.{refused_with, positions, answer_on, answer_at}
use Rattle.resolution.proofs.ResolverWhole.{answer_of, Accepts, resolver_is, resolver_accepts}
use Rattle.resolution.proofs.Sets.{starts-room}
use Rattle.records.proofs.request.Taken.{inputs-ok}
use Rattle.std.specs.Prelude.{Ok, Err}

-- ---- a set and a request that the check takes

module _ (s q : List ℕ) (n : ℕ) (t : List ℕ) (e : check_set s ≡ Ok (record { count = n; starts = t })) where
  pub checked-few : n ≤ 512
  checked-few = (good-set s n t e).few

  pub checked-room : n ≤ length t
  checked-room = starts-room s n t e

  pub checked-short : length s ≤ 65535
  checked-short = (good-set s n t e).short

  module _ (ws : List ℕ) (p : PermittedRow s q n ws) (order : List ℕ) (queue : Queue) (l : line_at order queue ≡ resolve_at (start_on s q n t ws)) (lent : List ℕ) where
    abbrev R : Result State Refusal
    R = Resolution.resolve (modules s) (request_of q)

    answer-is : answer_on queue.halt (take queue.tail order) ≡ answer_of s q R
    unfolding answer_at line_at
    answer-is = ap answer_at l ∙ resolver_is s q n t e ws p.each

    refuses : (x : ModuleError) → answer_on queue.halt (take queue.tail order) ≡ refused_with x → (z : Result State Refusal) → R ≡ z → told s q lent z ≡ refused x lent
    unfolding answer_of told
    refuses x k (failed a) h =
        let w : refused_with x ≡ refused_with (error_of s q a) = sym k ∙ answer-is ∙ ap (answer_of s q) h in
        let y : x ≡ error_of s q a = cc in
        ap (λ (v : ModuleError). refused v lent) (sym y)
    refuses x k (done st) h =
        let w : refused_with x ≡ answer_of s q (done st) = sym k ∙ answer-is ∙ ap (answer_of s q) h in
        clash (cc)

    pub checked-stop : (x : ModuleError) → queue.halt ≡ Halt.Stop x → told s q lent (Resolution.resolve (modules s) (request_of q)) ≡ record { outcome = Err x; words = lent }
    unfolding answer_on refused
    checked-stop x k = refuses x (ap (λ (h : Halt). answer_on h (take queue.tail order)) k) R refl

    pub checked_refused : (x : ModuleError) → queue.halt ≡ Halt.Refused x → told s q lent (Resolution.resolve (modules s) (request_of q)) ≡ record { outcome = Err x; words = lent }
    unfolding answer_on refused
    checked_refused x k = refuses x (ap (λ (h : Halt). answer_on h (take queue.tail order)) k) R refl

    accepts : (after : List ℕ) → queue.halt ≡ Halt.Open → Configured s q n (take queue.tail order) lent after → (z : Result State Refusal) → R ≡ z
        → told s q lent z ≡ record { outcome = (Ok tt); words = after }
    unfolding answer_of told answer_on line_at
    accepts after k c (failed a) h =
        let w : positions (take queue.tail order) ≡ refused_with (error_of s q a) =
        sym (ap (λ (x : Halt). answer_on x (take queue.tail order)) k) ∙ answer-is ∙ ap (answer_of s q) h in
        clash (cc)
    accepts after k c (done st) h =
        let a : Accepts s n (line_at order queue) st.resolved = subst (λ (x : Line). Accepts s n x st.resolved) (sym l) (resolver_accepts s q n t e ws p.each st h) in
        ap (λ (x : List ℕ). record { outcome = (Ok tt); words = x }) (sym (c.is st.resolved a.modules_are a.visible))

    pub checked_open : (after : List ℕ) → queue.halt ≡ Halt.Open → Configured s q n (take queue.tail order) lent after
        → told s q lent (Resolution.resolve (modules s) (request_of q)) ≡ record { outcome = (Ok tt); words = after }
    checked_open after k c = accepts after k c R refl

pub ruleset checked-laws = (checked-few, checked-room, checked-short, checked_open, checked-stop, checked_refused)

-- ---- any set and request

module _ (s q : List ℕ) where
  pub resolve-refused : (ws : List ℕ) (x : ModuleError) (o : Outcome) → Err x ≡ check_inputs s q → o ≡ Err x → resolve s q ws ≡ record { outcome = o; words = ws }
  unfolding resolve answered
  resolve-refused ws x o k e = ap (answered s q ws) (with-refused ws (count_of (check_inputs s q)) x (ap count_of (sym k))) ∙ ap (λ (y : Outcome). record { outcome = y; words = ws }) (sym e)

  module _ (c : Checked) (ec : Ok c ≡ check_inputs s q) where
    pub resolve-set : check_set s ≡ Ok c
    resolve-set = inputs-ok s q c ec

    pub resolve-short : length q ≤ 65535
    resolve-short = go (ltb 65535 (length q)) refl
      where
        go : (b : Bool) → ltb 65535 (length q) ≡ b → length q ≤ 65535
        go false h = ltb-false 65535 (length q) h
        go true h =
            let long : Err (TooLarge 0) ≡ check_inputs s q = inputs_long s q (Err (TooLarge 0)) (ltb-true 65535 (length q) h) refl in
            let z : Err (TooLarge 0) ≡ Ok c = long ∙ sym ec in
            clash (cc)

    pub resolve-few : (ws : List ℕ) → length ws < 4616 → resolve s q ws ≡ record { outcome = Err (OutputTooShort 4616); words = ws }
    unfolding resolve answered
    resolve-few ws l = ap (answered s q ws) (with-few ws (count_of (check_inputs s q)) c.count (ap count_of (sym ec)) l)

    -- what is told over the table of the set
    pub resolve-taken : (ws t : List ℕ) (o : Outcome) (after : List ℕ) → 4616 ≤ length ws → t ≡ s
        → told t q ws (Resolution.resolve (modules t) (request_of q)) ≡ record { outcome = o; words = after } → resolve s q ws ≡ record { outcome = o; words = after }
    unfolding resolve answered
    resolve-taken ws t o after l et e =
        ap (answered s q ws) (with_enough ws (count_of (check_inputs s q)) c.count (ap count_of (sym ec)) l)
        ∙ subst (λ (y : List ℕ). told y q ws (Resolution.resolve (modules y) (request_of q)) ≡ record { outcome = o; words = after }) et e

pub ruleset resolve-laws = (indexed-none, resolve-refused, resolve-set, resolve-short, resolve-few, resolve-taken)
