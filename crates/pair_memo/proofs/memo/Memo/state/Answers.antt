use Rattle.std.proofs.Common.{◌≡◌, Some, List, rules, subst}
use Rattle.pair_memo.specs.Entries.{Entry}
use Rattle.pair_memo.specs.Memos.{IsMemo}
use Rattle.pair_memo.proofs.Kept.{told}
use Rattle.pair_memo.proofs.memo.Memo.state.Goals as goal

pub returns-in-Some : goal.returns-in-Some
returns-in-Some c =
    let seen : c.args.self.now ≡ c.self.inside.entries.entries = search (rules, c.self.view_is) in
    λ q r pool lefts rights h. told q r pool lefts rights (record { kind = c.args.kind; left = c.args.left.now; right = c.args.right.now }) c.self.inside.entries.entries (Some c.in-Some.state.now) c.in-Some.ensures.value
    (subst (λ (l : List Entry). IsMemo q r pool lefts rights l) seen h)
