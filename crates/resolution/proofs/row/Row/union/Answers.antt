use Rattle.std.proofs.Common.{rules, ◌≡◌, ℕ, ◌<◌, get_or}
use Rattle.std.proofs.Common.{bit_or}
use Rattle.resolution.proofs.row.Laws.{union-is}
use Rattle.resolution.proofs.row.Row.union.Goals as goal

pub returns : goal.returns
returns c =
    let e : (k : ℕ) → k < 8 → get_or c.zip_words.result.words k 0 ≡ bit_or (get_or c.args.self.words k 0) (get_or c.args.other.words k 0) = λ k l. search (rules, c.zip_words.ensures k l) in
    union-is c.args.self.words c.args.other.words c.zip_words.result.words (search rules) (search rules) (search rules) e
