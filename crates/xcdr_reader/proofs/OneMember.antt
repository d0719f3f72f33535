-- One member in declared order: what comes of it is what the representations define.
use Rattle.std.proofs.Common.{◌≡◌, refl, sym, ap, ◌∙◌, ℕ, ◌+◌, ◌≤◌, Bool, true, false, cond, not, ◌==◌, nat_lt, List, [], ◌∷◌, length, take, Option, Some, None, Ok, Err, Result, arith, length-take}
use Rattle.std.proofs.lemmas.Bool.{ltb-false, eqb-true}
use Rattle.xt_shapes.specs.declared.leaves.Order.{Order}
use Rattle.xt_shapes.specs.Shape.{Head, Shape}
use Rattle.xcdr_model.specs.declared.malformed.Fault.{Fault}
use Rattle.xcdr_model.specs.declared.malformed.Why.TheVariants.{Parameter, MemberId, MemberSize}
use Rattle.xcdr_model.specs.Numbers.{padding}
use Rattle.xcdr_model.specs.Projection.{Part}
use Rattle.xcdr_model.specs.Reading.{Spot, Reading, fault_at, ◌>>=◌, step, front}
use Rattle.xcdr_model.specs.Xcdr1Reading.{Mark, mark_at, is_no_id, named, checked_id, sized_at, read1, is_open, content_read, optional1_at}
use Rattle.xcdr_model.specs.Xcdr2Reading.{Piece, read, present_at, one_part, optional_at}
use Rattle.xcdr_steps.specs.one.Marks.{placed_mark}
use Rattle.xcdr_steps.specs.one.Own.{named as is_named, own_checked}
use Rattle.xcdr_reader.specs.declared.modes.Mode.{Mode}
use Rattle.xcdr_reader.specs.declared.modes.Mode.TheVariants.{Two, Inner, Tail}
use Rattle.xcdr_reader.specs.declared.comings.Coming.{Coming}
use Rattle.xcdr_reader.specs.declared.comings.Coming.TheVariants.{Absent, Here, Content}
use Rattle.xcdr_reader.specs.Modes.{read_in, inner, parameter_content}
use Rattle.xcdr_reader.specs.Comings.{by_presence, by_length, own_read, here_read}
use Rattle.xcdr_reader.specs.Parts.{some_read, coming_part}
use Rattle.xcdr_reader.proofs.Gathering.{bind_ok}

-- what came of a member, under its id
abbrev pub by_own : ℕ → Option Part → List (ℕ × Part)
by_own id None = []
by_own id (Some x) = (id, x) ∷ []

abbrev pub came_of : ℕ → Reading (Option Part) → Reading (List (ℕ × Part))
came_of id r = r >>= λ x. Ok (by_own id x.0, x.1)

abbrev pub one_member : Mode → Head → Shape → Order → Spot → Reading (List (ℕ × Part))
one_member Two h t o s = optional_at h.optional o h.id (λ s1. read o t s1) s
one_member Inner h t o s = optional1_at h.optional o h.id (λ s1. read1 false o t s1) (content_read (not (is_open t)) (λ s1. read1 true o t s1)) s
one_member Tail h t o s = optional1_at h.optional o h.id (λ s1. read1 false o t s1) (content_read (not (is_open t)) (λ s1. read1 true o t s1)) s

-- where the region may not end
abbrev pub here_part : Mode → Bool → ℕ → Shape → Order → Spot → Reading (Option Part)
here_part m optional id t o s = here_read m optional id o s >>= λ c. coming_part m t c.0 o c.1

came_there : (id : ℕ) (r : Reading Part) → came_of id (some_read r) ≡ one_part id r
unfolding ◌>>=◌
came_there id (Ok x) = refl
came_there id (Err e) = refl

plain_part : (m : Mode) (id : ℕ) (t : Shape) (o : Order) (s : Spot) → came_of id (here_part m false id t o s) ≡ one_part id (read_in (inner m) o t s)
plain_part m id t o s = ap (came_of id) (bind_ok (Here, s) (λ c. coming_part m t c.0 o c.1)) ∙ came_there id (read_in (inner m) o t s)

abbrev presence_made : Bool × Spot → Reading Coming
presence_made b = Ok (by_presence b.0, b.1)

abbrev length_made : ℕ × Spot → Reading Coming
length_made n = Ok (by_length n.0, n.1)

present_part : (id : ℕ) (t : Shape) (o : Order) (r : Reading Bool) → came_of id ((r >>= presence_made) >>= λ c. coming_part Two t c.0 o c.1) ≡ (r >>= λ b. cond b.0 (one_part id (read o t b.1)) (Ok ([], b.1)))
unfolding ◌>>=◌
present_part id t o (Ok (true, s)) = came_there id (read o t s)
present_part id t o (Ok (false, s)) = refl
present_part id t o (Err e) = refl

two_member : (optional : Bool) (id : ℕ) (t : Shape) (o : Order) (s : Spot) → came_of id (here_part Two optional id t o s) ≡ optional_at optional o id (λ s1. read o t s1) s
unfolding optional_at
two_member true id t o s = present_part id t o (present_at o s)
two_member false id t o s = plain_part Two id t o s

-- ---- an optional member of XCDR1, by its own header

step_none : (s : Spot) → step 0 s ≡ s
unfolding step
step_none s = ap (λ (k : ℕ). record { at = k; rest = s.rest }) (omega arith)

abbrev tail_content : Shape → Order → Spot → Reading Part
tail_content t o s = content_read (not (is_open t)) (λ s1. read1 true o t s1) s

abbrev behind_content : ℕ → ℕ → Spot → Part × Spot → Reading (List (ℕ × Part))
behind_content id n s x = Ok ((id, x.0) ∷ [], step n s)

content_part : (id n : ℕ) (s : Spot) (r : Reading Part) → came_of id (some_read (r >>= λ x. Ok (x.0, step n s))) ≡ (r >>= behind_content id n s)
unfolding ◌>>=◌
content_part id n s (Ok x) = refl
content_part id n s (Err e) = refl

-- by the content's length
by_test : (P : Coming → Spot → Reading (Option Part)) (id n : ℕ) (t : Shape) (o : Order) (s : Spot) (b : Bool) → (n == 0) ≡ b → ((s1 : Spot) → P Absent s1 ≡ Ok (None, s1)) → ((n : ℕ) (s1 : Spot) → P (Content n) s1 ≡ some_read (parameter_content n t o s1))
    → came_of id (P (cond b Absent (Content n)) s) ≡ cond b (Ok ([], step n s)) (tail_content t o (front n s) >>= behind_content id n s)
by_test P id n t o s true e absent content =
    let none : n ≡ 0 = eqb-true n 0 e in
    ap (came_of id) (absent s) ∙ came_none id s ∙ ap (λ (x : Spot). Ok ([], x)) (sym (step_none s) ∙ ap (λ (k : ℕ). step k s) (sym none))
  where
    came_none : (id : ℕ) (s : Spot) → came_of id (Ok (None, s)) ≡ Ok ([], s)
    came_none id s = bind_ok (None, s) (λ x. Ok (by_own id x.0, x.1))
by_test P id n t o s false e absent content = ap (came_of id) (content n s) ∙ content_part id n s (tail_content t o (front n s))

abbrev sized_content : ℕ → Shape → Order → Piece × Spot → Reading (List (ℕ × Part))
sized_content id t o q = cond (length q.0.content.rest == 0) (Ok ([], q.1)) (tail_content t o q.0.content >>= λ x. Ok ((id, x.0) ∷ [], q.1))

-- by what is tested of the header
by_tests : (P : Coming → Spot → Reading (Option Part)) (header id : ℕ) (t : Shape) (o : Order) (m : Mark × Spot) (a b c : Bool) → nat_lt (length m.1.rest) m.0.length ≡ c → ((s1 : Spot) → P Absent s1 ≡ Ok (None, s1)) → ((n : ℕ) (s1 : Spot) → P (Content n) s1 ≡ some_read (parameter_content n t o s1))
    → came_of id ((cond {A = Reading ℕ} a (cond b (fault_at header MemberId) (cond c (fault_at header MemberSize) (Ok (m.0.length, m.1)))) (fault_at header Parameter) >>= length_made) >>= λ x. P x.0 x.1)
    ≡ (cond {A = Result Mark Fault} a (Ok m.0) (fault_at header Parameter) >>= λ n. cond {A = Result Mark Fault} b (fault_at header MemberId) (Ok n) >>= λ k. sized_at header k m.1 >>= sized_content id t o)
unfolding ◌>>=◌ sized_at
by_tests P header id t o m false b c e absent content = refl
by_tests P header id t o m true true c e absent content = refl
by_tests P header id t o m true false true e absent content = rw e refl
by_tests P header id t o m true false false e absent content =
    let n = m.0.length in
    let s = m.1 in
    let fits : n ≤ length s.rest = ltb-false _ _ e in
    let all : length (take n s.rest) ≡ n = omega (arith, length-take n s.rest, fits) in
    rw (e, all) (by_test P id n t o s (n == 0) refl absent content)

abbrev placed : ℕ → ℕ → Order → Reading Mark → Reading ℕ
placed header id o r = (r >>= placed_mark header) >>= λ x. own_checked id x.0 o x.1

-- the id is tested of the header that was named
id_tested : (header id : ℕ) (t : Shape) (o : Order) (m : Mark × Spot) (a : Bool)
    → (cond {A = Result Mark Fault} a (Ok m.0) (fault_at header Parameter) >>= λ n. cond {A = Result Mark Fault} (is_no_id m.0) (fault_at header MemberId) (Ok n) >>= λ k. sized_at header k m.1 >>= sized_content id t o)
    ≡ (cond {A = Result Mark Fault} a (Ok m.0) (fault_at header Parameter) >>= λ n. checked_id header n >>= λ k. sized_at header k m.1 >>= sized_content id t o)
unfolding ◌>>=◌
id_tested header id t o m true = refl
id_tested header id t o m false = refl

own_header : (P : Coming → Spot → Reading (Option Part)) (header id : ℕ) (t : Shape) (o : Order) (r : Reading Mark) → ((s1 : Spot) → P Absent s1 ≡ Ok (None, s1)) → ((n : ℕ) (s1 : Spot) → P (Content n) s1 ≡ some_read (parameter_content n t o s1))
    → came_of id ((placed header id o r >>= length_made) >>= λ x. P x.0 x.1) ≡ (r >>= λ m. named header id m.0 >>= λ n. checked_id header n >>= λ k. sized_at header k m.1 >>= sized_content id t o)
unfolding ◌>>=◌
own_header P header id t o (Err f) absent content = refl
own_header P header id t o (Ok m) absent content =
    by_tests P header id t o m (is_named m.0 id) (is_no_id m.0) (nat_lt (length m.1.rest) m.0.length) refl absent content
    ∙ id_tested header id t o m (is_named m.0 id)

own_member : (P : Coming → Spot → Reading (Option Part)) (id : ℕ) (t : Shape) (o : Order) (f : Spot → Reading Part) (s : Spot) → ((s1 : Spot) → P Absent s1 ≡ Ok (None, s1)) → ((n : ℕ) (s1 : Spot) → P (Content n) s1 ≡ some_read (parameter_content n t o s1))
    → came_of id (own_read id o s >>= λ c. P c.0 c.1) ≡ optional1_at true o id f (content_read (not (is_open t)) (λ s1. read1 true o t s1)) s
unfolding optional1_at
own_member P id t o f s absent content = own_header P (s.at + padding 4 s.at) id t o (mark_at o s) absent content

inner_member : (optional : Bool) (id : ℕ) (t : Shape) (o : Order) (s : Spot) → came_of id (here_part Inner optional id t o s) ≡ optional1_at optional o id (λ s1. read1 false o t s1) (content_read (not (is_open t)) (λ s1. read1 true o t s1)) s
unfolding optional1_at
inner_member true id t o s = own_member (λ c s1. coming_part Inner t c o s1) id t o (λ s1. read1 false o t s1) s (λ s1. refl) (λ n s1. refl)
inner_member false id t o s = plain_part Inner id t o s

tail_member : (optional : Bool) (id : ℕ) (t : Shape) (o : Order) (s : Spot) → came_of id (here_part Tail optional id t o s) ≡ optional1_at optional o id (λ s1. read1 false o t s1) (content_read (not (is_open t)) (λ s1. read1 true o t s1)) s
unfolding optional1_at
tail_member true id t o s = own_member (λ c s1. coming_part Tail t c o s1) id t o (λ s1. read1 false o t s1) s (λ s1. refl) (λ n s1. refl)
tail_member false id t o s = plain_part Tail id t o s

pub member_is : (m : Mode) (h : Head) (t : Shape) (o : Order) (s : Spot) → came_of h.id (here_part m h.optional h.id t o s) ≡ one_member m h t o s
member_is Two h t o s = two_member h.optional h.id t o s
member_is Inner h t o s = inner_member h.optional h.id t o s
member_is Tail h t o s = tail_member h.optional h.id t o s
