-- Each pair that is drawn is sound.
use Rattle.std.proofs.Common.{◌≡◌, ℕ, zero, suc, ◌+◌, ◌<◌, ◌≤◌, ◌^◌, List, length, inr, arith, lit<}
use Rattle.xt_shapes.specs.declared.leaves.Ext.{Ext}
use Rattle.xt_shapes.specs.declared.leaves.Rep.{Rep}
use Rattle.xt_shapes.specs.declared.leaves.Order.TheVariants.{Little}
use Rattle.type_trees.specs.Bridge.{shape}
use Rattle.type_rules.specs.Laws.{ShapeKeepsRules}
use Rattle.xcdr_model.specs.FixedSpelling.{fixed_of}
use Rattle.xcdr_model.specs.Policies.{standard}
use Rattle.shape_laws.specs.RoundTrips.{SampleWritten}
use Rattle.shape_laws.specs.Soundness.{CrossSample}
use Rattle.shape_laws.specs.Verdicts.{Judged}
use Rattle.xt_vectors.specs.declared.findings.Finding.{Finding}
use Rattle.xt_vectors.specs.declared.findings.Finding.TheVariants.{No, Read, Discarded, MustUnderstand}
use Rattle.xt_vectors.specs.declared.plans.Plan.{Plan}
use Rattle.xt_vectors.specs.declared.runs.Counts.{Counts}
use Rattle.xt_vectors.specs.Draws.{next}
use Rattle.xt_vectors.specs.Plans.{ext_drawn, rep_drawn, plans_drawn}
use Rattle.xt_vectors.specs.Readers.{change_drawn, reader_plans}
use Rattle.xt_vectors.specs.Pairs.{count_drawn, pair_from, pair_drawn}
use Rattle.xt_vectors.specs.Findings.{found, spelled}
use Rattle.xt_vectors.specs.Runs.{counted, course}
use Rattle.xt_vectors.specs.Laws.{IsSound, EachIsSound, ReadIsProjected, EachIsCounted}
use Rattle.xt_vectors.proofs.Planned.{below, Between, plans_between, plans_length, reader_between, some_reader}
use Rattle.xt_vectors.proofs.Typed.{slots_typed}
use Rattle.xt_vectors.proofs.Valid.{structure_valid}

from_sound : (ext : Ext) (rep : Rep) (n : ℕ) (ps : List Plan) (s : ℕ) → n ≤ 8 → 1 ≤ length ps → Between 0 n ps → IsSound (pair_from ext rep n ps s).0
unfolding pair_from
from_sound ext rep n ps s most some b =
    let change = (change_drawn s).0 in
    record {
      reader = structure_valid ext (n + 1) (reader_plans change n ps) (omega arith) (some_reader change n ps some) (reader_between change n ps b);
      writer = structure_valid ext n ps (omega arith) some b;
      typed = slots_typed ext n ps (change_drawn s).1 b;
    }

pub each_sound : EachIsSound
unfolding pair_drawn
each_sound s =
    let count = count_drawn (next (next s)) in
    let few = below 8 (next (next s)) (lit< tt) in
    let plans = plans_drawn count (next (next (next s))) in
    from_sound (ext_drawn s) (rep_drawn (next s)) count plans.0 plans.1 (omega (arith, few)) (omega (arith, plans_length count (next (next (next s))))) (plans_between count (next (next (next s))))

-- ---- the sample is read as the projection

pub read_projected : ShapeKeepsRules → Judged → SampleWritten → CrossSample → ReadIsProjected
read_projected kept judged written cross p sound passes short =
    let reader = kept p.reader sound.reader in
    let writer = kept p.writer sound.writer in
    let assigned = (judged standard p.rep (shape p.reader) (shape p.writer) reader).0 passes in
    let few : length (fixed_of p.rep Little (shape p.writer) p.value 0) < 2 ^ 32 = omega (arith, short) in
    cross standard p.rep (shape p.reader) (shape p.writer) p.value (spelled p) reader writer (inr assigned) (written p.rep Little (shape p.writer) p.value writer sound.typed few).0

-- ---- each pair is counted

abbrev Balanced : ℕ → Counts → Type 0
Balanced n c = (c.yes ≡ c.ok + c.discarded + c.must_understand) × (n ≡ c.yes + c.no)

one_counted : (f : Finding) (n : ℕ) (c : Counts) → Balanced n c → Balanced (suc n) (counted f c)
one_counted No n c b = (b.0, omega (arith, b.1))
one_counted Read n c b = (omega (arith, b.0), omega (arith, b.1))
one_counted Discarded n c b = (omega (arith, b.0), omega (arith, b.1))
one_counted MustUnderstand n c b = (omega (arith, b.0), omega (arith, b.1))

pub each_counted : EachIsCounted
each_counted seed zero = (omega arith, omega arith)
each_counted seed (suc n) = one_counted (found (pair_drawn (course seed n).state).0).0 n (course seed n).counts (each_counted seed n)
