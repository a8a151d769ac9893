use Rattle.std.proofs.Common.{rules, ◌≡◌, ℕ, ◌<◌, get_or}
use Rattle.resolution.proofs.graph.Edges.{lack_word, lacking_is}
use Rattle.resolution.proofs.graph.lacking.Goals as goal

pub returns : goal.returns
returns c =
    let e : (k : ℕ) → k < 8 → get_or c.zip_words.result.words k 0 ≡ lack_word (get_or c.row_at.result.words k 0) (get_or c.args.out.words k 0) = λ k l. search (rules, c.zip_words.ensures k l) in
    lacking_is c.args.g.now c.args.m c.args.out.words c.row_at.result.words c.zip_words.result.words (search rules) (search rules) c.row_at.ensures e
