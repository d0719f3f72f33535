-- One pair more.
use Rattle.std.proofs.Common.{◌≡◌, ℕ, ◌+◌, ◌<◌, ◌≤◌, List, ◌++◌, refl, sym, ap, ◌∙◌, subst, add-one, arith}
use Rattle.md5.specs.declared.Md5.{Md5}
use Rattle.md5.specs.Md5.{Holds, md5}
use Rattle.xt_vectors.specs.declared.findings.Finding.{Finding}
use Rattle.xt_vectors.specs.declared.findings.Finding.TheVariants.{No, Read, Discarded, MustUnderstand}
use Rattle.xt_vectors.specs.declared.runs.Counts.{Counts}
use Rattle.xt_vectors.specs.Findings.{found}
use Rattle.xt_vectors.specs.Pairs.{Posed, pair_drawn}
use Rattle.xt_vectors.specs.declared.runs.Summary.{Summary}
use Rattle.xt_vectors.specs.Runs.{Course, IsBelow, none, counted, one_more, course, summed, summary}
use Rattle.xt_vectors.proofs.Loops.{IsOnCourse}

pub below_none : (n : ℕ) → 0 < n → IsBelow none n
below_none n p = record { yes = p; no = p; ok = p; discarded = p; must_understand = p }

pub below_more : (c : Counts) (n m : ℕ) → n ≤ m → IsBelow c n → IsBelow c m
below_more c n m le b = record { yes = omega (arith, b.yes, le); no = omega (arith, b.no, le); ok = omega (arith, b.ok, le); discarded = omega (arith, b.discarded, le); must_understand = omega (arith, b.must_understand, le) }

pub below_counted : (f : Finding) (c : Counts) (n : ℕ) → IsBelow c n → IsBelow (counted f c) (n + 1)
below_counted No c n b = record { yes = omega (arith, b.yes); no = omega (arith, b.no); ok = omega (arith, b.ok); discarded = omega (arith, b.discarded); must_understand = omega (arith, b.must_understand) }
below_counted Read c n b = record { yes = omega (arith, b.yes); no = omega (arith, b.no); ok = omega (arith, b.ok); discarded = omega (arith, b.discarded); must_understand = omega (arith, b.must_understand) }
below_counted Discarded c n b = record { yes = omega (arith, b.yes); no = omega (arith, b.no); ok = omega (arith, b.ok); discarded = omega (arith, b.discarded); must_understand = omega (arith, b.must_understand) }
below_counted MustUnderstand c n b = record { yes = omega (arith, b.yes); no = omega (arith, b.no); ok = omega (arith, b.ok); discarded = omega (arith, b.discarded); must_understand = omega (arith, b.must_understand) }

-- a pair was drawn, tried and counted
pub one_on : (x : Course) (n s s2 : ℕ) (c c2 : Counts) (h h2 : Md5) (p : Posed) (f : Finding) → (y : Course) → y ≡ one_more x → IsOnCourse x n s c h → p ≡ (pair_drawn s).0 → s2 ≡ (pair_drawn s).1 → f ≡ (found p).0 → ((m : List ℕ) → Holds h m → Holds h2 (m ++ (found p).1)) → c2 ≡ counted f c
    → IsOnCourse y (n + 1) s2 c2 h2
one_on x n s s2 c c2 h h2 p f y more on drawn state finding hashed counts =
    let pair : p ≡ (pair_drawn x.state).0 = drawn ∙ ap (λ (k : ℕ). (pair_drawn k).0) on.state in
    subst (λ (z : Course). IsOnCourse z (n + 1) s2 c2 h2) (sym more) (record {
      state = state ∙ ap (λ (k : ℕ). (pair_drawn k).1) on.state;
      counts = counts ∙ ap (λ (g : Finding). counted g c) (finding ∙ ap (λ (q : Posed). (found q).0) pair) ∙ ap (counted (found (pair_drawn x.state).0).0) on.counts;
      few = subst (λ (k : Counts). IsBelow k (n + 1 + 1)) (sym counts) (below_counted f c (n + 1) on.few);
      holds = subst (λ (q : Posed). Holds h2 (x.octets ++ (found q).1)) pair (hashed x.octets on.holds);
    })

pub course_more : (seed n : ℕ) → course seed (n + 1) ≡ one_more (course seed n)
course_more seed n = rw add-one refl

-- all pairs were drawn
pub summed_up : (seed n turn s : ℕ) (c : Counts) (h : Md5) (digest : List ℕ) (r : Summary) → IsOnCourse (course seed turn) turn s c h → turn ≡ n → ((m : List ℕ) → Holds h m → digest ≡ md5 m) → r ≡ summed n c digest → r ≡ summary seed n
summed_up seed n turn s c h digest r on all hashed result =
    result
    ∙ ap (λ (k : Counts). summed n k digest) on.counts
    ∙ ap (summed n (course seed turn).counts) (hashed (course seed turn).octets on.holds)
    ∙ ap (λ (k : ℕ). summed n (course seed k).counts (md5 (course seed k).octets)) all
