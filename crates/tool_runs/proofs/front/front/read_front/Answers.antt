use Rattle.std.proofs.Common.{◌≡◌, ◌≤◌, ◌<◌, ◌+◌, ℕ, List, [], ◌∷◌, ◌++◌, true, false, length, length-append, arith, rules, sym, ap, ◌∙◌, subst, codes}
use Rattle.xt_io.specs.declared.Item.{Item}
use Rattle.xt_io.specs.Outside.{KeepsTold}
use Rattle.xt_io.specs.Readers.{inside}
use Rattle.tool_runs.specs.declared.output.turns.Next.{Next}
use Rattle.tool_runs.specs.declared.output.turns.Next.TheVariants.{Record, Broken, End}
use Rattle.tool_runs.specs.output.Texts.{bundle_text}
use Rattle.tool_runs.specs.output.Outputs.{broken, bundle_refusal}
use Rattle.tool_runs.specs.output.Runs.{coming, turns_left}
use Rattle.tool_runs.specs.front.Fronts as spec
use Rattle.tool_runs.specs.front.Fronts.{most_octets}
use Rattle.xt_io.specs.Bundles.{limit_of}
use Rattle.tool_runs.specs.front.Reading.{AreWithin}
use Rattle.tool_runs.proofs.OfFront.Fronting.{within_on, Progress, told_on, goes_on, too_long, is_broken, ends_whole, ends_broken, ends_head, front_ends, front_refused, front_cut}
use Rattle.tool_runs.proofs.front.front.read_front.Goals as goal

pub returns-then-not-is_front-clause-front : goal.returns-then-not-is_front-clause-front
returns-then-not-is_front-clause-front g c =
    let first = c.args.reader.now.ahead in
    let now = c.next_of.new.reader in
    let told = subst (λ (n : Next). KeepsTold c.records.reader.ahead (coming n now)) c.in-Record.is c.in_ok-head.ensures.coming in
    let p = told_on first c.records.reader.ahead (coming (Record c.in-Record.head) now) c.records.records c.records.total c.records.invariant.front told in
    let isnt : spec.is_front c.in-Record.head.kind ≡ false = search rules in
    front_ends first (record { records = c.records.records; next = Record c.in-Record.head }) now (ends_head first c.records.records c.records.total c.in-Record.head (inside now) now.ahead p isnt)

pub returns-in-Err-clause-front : goal.returns-in-Err-clause-front
returns-in-Err-clause-front g c =
    let first = c.args.reader.now.ahead in
    let now = c.next_of.new.reader in
    let told = subst (λ (n : Next). KeepsTold c.records.reader.ahead (coming n now)) c.in-Record.is c.in_ok-head.ensures.coming in
    let p = told_on first c.records.reader.ahead (coming (Record c.in-Record.head) now) c.records.records c.records.total c.records.invariant.front told in
    let is : spec.is_front c.in-Record.head.kind ≡ true = search rules in
    front_cut first (coming (Record c.in-Record.head) now) c.payload_of.new.reader.ahead c.records.records c.records.total c.in-Record.head c.in-Err.stop c.payload_of.new.reader p c.in-Err.ensures.takes is

pub returns-then-total-gt-MOST_OCTETS-clause-front : goal.returns-then-total-gt-MOST_OCTETS-clause-front
returns-then-total-gt-MOST_OCTETS-clause-front g c =
    let first = c.args.reader.now.ahead in
    let now = c.next_of.new.reader in
    let told = subst (λ (n : Next). KeepsTold c.records.reader.ahead (coming n now)) c.in-Record.is c.in_ok-head.ensures.coming in
    let p = told_on first c.records.reader.ahead (coming (Record c.in-Record.head) now) c.records.records c.records.total c.records.invariant.front told in
    let is : spec.is_front c.in-Record.head.kind ≡ true = search rules in
    let over : most_octets < c.records.total + length c.in-Ok.payload = omega (arith, c.if-total-gt-MOST_OCTETS.true, c.len.ensures) in
    front_refused first (bundle_refusal (bundle_text c.in-Record.head.at (codes "too-long"))) c.refuse_bundle.result c.payload_of.new.reader
    (too_long first (coming (Record c.in-Record.head) now) c.payload_of.new.reader.ahead c.records.records c.records.total c.in-Record.head c.in-Ok.payload p c.in-Ok.ensures.takes is over) c.refuse_bundle.ensures

pub records-preserved : goal.records-preserved
records-preserved g c =
    let first = c.args.reader.now.ahead in
    let now = c.next_of.new.reader in
    let told = subst (λ (n : Next). KeepsTold c.records.reader.ahead (coming n now)) c.in-Record.is c.in_ok-head.ensures.coming in
    let p = told_on first c.records.reader.ahead (coming (Record c.in-Record.head) now) c.records.records c.records.total c.records.invariant.front told in
    let is : spec.is_front c.in-Record.head.kind ≡ true = search rules in
    let within : c.records.total + length c.in-Ok.payload ≤ most_octets = omega (arith, c.if-total-gt-MOST_OCTETS.false, c.len.ensures) in
    let item : Item = record { kind = c.in-Record.head.kind; at = c.in-Record.head.at; payload = c.in-Ok.payload } in
    let on = goes_on first (coming (Record c.in-Record.head) now) c.payload_of.new.reader.ahead c.records.records c.records.total c.in-Record.head c.in-Ok.payload p c.in-Ok.ensures.takes is within in
    let fewer = subst (λ (n : Next). turns_left n now.may_follow ≤ c.records.reader.may_follow) c.in-Record.is c.in_ok-head.ensures.fewer in
    let fits : length c.in-Ok.payload ≤ limit_of c.in-Record.head.kind = c.in-Ok.ensures.size in
    record {
      sized = subst AreWithin (sym c.in_ok-push-in-Record.ensures.ok) (within_on c.records.records item c.records.invariant.sized fits);
      good = c.in-Ok.ensures.on.good;
      front = subst (λ (l : List Item). Progress first l (c.records.total + c.len.result) c.payload_of.new.reader.ahead) (sym c.in_ok-push-in-Record.ensures.ok)
          (subst (λ (n : ℕ). Progress first (c.records.records ++ item ∷ []) (c.records.total + n) c.payload_of.new.reader.ahead) (sym c.len.ensures) on);
      few = omega (arith, ap length c.in_ok-push-in-Record.ensures.ok, length-append c.records.records (item ∷ []), fewer, c.in-Ok.ensures.on.follow, c.records.invariant.few);
      within = omega (arith, c.if-total-gt-MOST_OCTETS.false);
      later = omega (arith, c.records.invariant.later, c.in_ok-head.ensures.halts.source_later, c.in-Ok.ensures.stops.source_later);
      same = c.in-Ok.ensures.same ∙ c.in_ok-head.ensures.same ∙ c.records.invariant.same;
    }

pub returns-then-begins_body-clause-front : goal.returns-then-begins_body-clause-front
returns-then-begins_body-clause-front g c =
    let first = c.args.reader.now.ahead in
    let now = c.next_of.new.reader in
    let told = subst (λ (n : Next). KeepsTold c.records.reader.ahead (coming n now)) c.in-Broken.is c.in_ok-head.ensures.coming in
    let p = told_on first c.records.reader.ahead (coming (Broken c.in-Broken.fault) now) c.records.records c.records.total c.records.invariant.front told in
    let does : spec.begins_body c.in-Broken.fault ≡ true = search rules in
    front_ends first (record { records = c.records.records; next = Broken c.in-Broken.fault }) now (ends_broken first c.records.records c.records.total c.in-Broken.fault p does)

pub returns-in-Broken-clause-front : goal.returns-in-Broken-clause-front
returns-in-Broken-clause-front g c =
    let first = c.args.reader.now.ahead in
    let now = c.next_of.new.reader in
    let told = subst (λ (n : Next). KeepsTold c.records.reader.ahead (coming n now)) c.in-Broken.is c.in_ok-head.ensures.coming in
    let p = told_on first c.records.reader.ahead (coming (Broken c.in-Broken.fault) now) c.records.records c.records.total c.records.invariant.front told in
    let isnt : spec.begins_body c.in-Broken.fault ≡ false = search rules in
    front_refused first (broken c.in-Broken.fault) c.refuse_fault.result now (is_broken first c.records.records c.records.total c.in-Broken.fault p isnt) c.refuse_fault.ensures

pub returns-in-End-clause-front : goal.returns-in-End-clause-front
returns-in-End-clause-front g c =
    let first = c.args.reader.now.ahead in
    let now = c.next_of.new.reader in
    let told = subst (λ (n : Next). KeepsTold c.records.reader.ahead (coming n now)) c.in-End.is c.in_ok-head.ensures.coming in
    let p = told_on first c.records.reader.ahead (coming End now) c.records.records c.records.total c.records.invariant.front told in
    front_ends first (record { records = c.records.records; next = End }) now (ends_whole first c.records.records c.records.total p)
