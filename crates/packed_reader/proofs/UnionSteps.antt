-- Unions: the case that a number selects, and unions by their extensibility.
use Rattle.std.proofs.Common.{◌≡◌, refl, sym, ap, subst, ◌∙◌, ℕ, zero, suc, ℤ, ◌+◌, ◌<◌, Bool, true, false, not, cond, ◌&&◌, ◌==◌, List, [], ◌∷◌, length, take, get_or, Option, Some, None, Ok, arith}
use Rattle.std.specs.Option.{option_map}
use Rattle.std.proofs.lemmas.Bool.{and_parts}
use Rattle.std.proofs.lemmas.List.{take_all}
use Rattle.xt_shapes.specs.declared.leaves.Ext.{Ext}
use Rattle.xt_shapes.specs.declared.leaves.Ext.TheVariants.{Final, Appendable}
use Rattle.xt_shapes.specs.declared.leaves.Order.{Order}
use Rattle.xt_shapes.specs.declared.leaves.Rep.{Rep}
use Rattle.xt_shapes.specs.declared.leaves.Rep.TheVariants.{Xcdr1, Xcdr2}
use Rattle.xt_shapes.specs.declared.leaves.Try.{Try}
use Rattle.xt_shapes.specs.declared.leaves.Try.TheVariants.{Discard, UseDefault, Trim}
use Rattle.xt_shapes.specs.Defaults.{default_of}
use Rattle.xt_shapes.specs.Select.{select}
use Rattle.xt_shapes.specs.Shape.{Shape, Cases, CaseHead, one_case, union}
use Rattle.xt_shapes.specs.Vals.{Val, int, union_of, Slot, absent, present}
use Rattle.type_trees.specs.declared.types.Case as declared
use Rattle.type_trees.specs.declared.types.UnionType.{UnionType, out-UnionType}
use Rattle.type_trees.specs.View.{union_tree}
use Rattle.type_trees.specs.Bridge.{shape, type_shape, cases_shape, case_head}
use Rattle.type_trees.proofs.Views.{case_tree_is, union_tree_is}
use Rattle.try_construct.specs.declared.guides.Guide.{Guide}
use Rattle.try_construct.specs.Guides.{IsGuide, AreCaseGuides, TellsCases, case_index, selected_index, part_at}
use Rattle.try_construct.proofs.CasesByIndex.{Selects, number_selects}
use Rattle.try_construct.proofs.GuideSteps.{guide_of_case}
use Rattle.xcdr_model.specs.Premises.{sound, sound_cases}
use Rattle.xcdr_model.specs.Projection.{Part, Built, got, Body, no_body, settled_body, settled_case, whole_union, disc_built, is_mutable, settled}
use Rattle.xcdr_model.specs.Reading.{Spot, Reading, ◌>>=◌, passing, filling, front, step}
use Rattle.xcdr_model.specs.Xcdr1Reading.{read1, read_case1}
use Rattle.xcdr_model.specs.Xcdr2Reading.{read, read_case, done, scalar_at, selected_at, rest_selected}
use Rattle.packed_reader.specs.Reads.{read_in, most, plain, Reads}
use Rattle.packed_reader.specs.Spots.{IsRegion}
use Rattle.packed_reader.specs.Unions.{ReadsNumber, case_in, ReadsCase, ReadsBody, ReadsUnion}

-- ---- the parts of the program's unions

pub union_sound : (k : UnionType) → let u = out-UnionType k in sound (shape (union_tree k)) ≡ true → sound_cases (cases_shape u.cases) ≡ true
union_sound k ok =
    let u = out-UnionType k in
    let all = rw (union_tree_is k) at ok in
    (and_parts (sound (type_shape u.disc)) (sound_cases (cases_shape u.cases)) (and_parts (not (is_mutable u.ext)) (sound (type_shape u.disc) && sound_cases (cases_shape u.cases)) all).1).1

pub union_guided : (k : UnionType) (g : Guide) → let u = out-UnionType k in IsGuide (shape (union_tree k)) g → TellsCases (cases_shape u.cases) g × (IsGuide (type_shape u.disc) (part_at g 0) × AreCaseGuides (cases_shape u.cases) g 1)
union_guided k g guided = rw (union_tree_is k) at guided

pub case_sound : (cs : List declared.Case) (i : ℕ) (c : declared.Case) → sound_cases (cases_shape cs) ≡ true → i < length cs → c ≡ get_or cs i c → sound (type_shape c.ty) ≡ true
case_sound [] i c ok within is = absurd (omega arith)
case_sound (x ∷ cs) zero c ok within is =
    let both = and_parts (sound (type_shape x.ty)) (sound_cases (cases_shape cs)) (rw (case_tree_is x) at ok) in
    subst (λ (y : declared.Case). sound (type_shape y.ty) ≡ true) (sym is) both.0
case_sound (x ∷ cs) (suc i) c ok within is =
    let both = and_parts (sound (type_shape x.ty)) (sound_cases (cases_shape cs)) (rw (case_tree_is x) at ok) in
    case_sound cs i c both.1 (omega arith) is

pub case_guided : (cs : List declared.Case) (g part : Guide) (i : ℕ) (c : declared.Case) → AreCaseGuides (cases_shape cs) g 1 → i < length cs → c ≡ get_or cs i c → part ≡ part_at g (i + 1) → IsGuide (type_shape c.ty) part
case_guided cs g part i c are within is at_i =
    let P : declared.Case → Type 0 = λ x. IsGuide (type_shape x.ty) (part_at g (1 + i)) in
    let Q : Guide → Type 0 = λ x. IsGuide (type_shape c.ty) x in
    let same : 1 + i ≡ i + 1 = omega arith in
    subst Q (ap (λ (n : ℕ). part_at g n) same ∙ sym at_i) (subst P (sym is) (guide_of_case cs g 1 i c within are))

-- ---- the case that is read

case_more : (r : Rep) (o : Order) (h : CaseHead) (t : Shape) (cs : Cases) (id : ℕ) (s : Spot) → case_in r o (one_case h t cs) id s ≡ cond (h.id == id) (done (λ x. settled_case h t x) (read_in r o t s)) (case_in r o cs id s)
unfolding read_case read_case1
case_more Xcdr1 o h t cs id s = refl
case_more Xcdr2 o h t cs id s = refl

abbrev read_of : Rep → Order → declared.Case → Spot → Reading (Body × Bool)
read_of r o c s = done (λ x. settled_case (case_head c) (type_shape c.ty) x) (read_in r o (type_shape c.ty) s)

case_by : (r : Rep) (o : Order) (x c : declared.Case) (cs : List declared.Case) (j : ℕ) (s : Spot) (b : Bool) (y : Option ℕ) (later : Reading (Body × Bool)) → cond b (Some 0) (option_map (λ k. suc k) y) ≡ Some j → c ≡ get_or (x ∷ cs) j c
    → ((k : ℕ) → y ≡ Some k → c ≡ get_or cs k c → later ≡ read_of r o c s) → cond b (read_of r o x s) later ≡ read_of r o c s
case_by r o x c cs j s true y later here is more =
    let first : 0 ≡ j = cc in
    let same : c ≡ x = subst (λ (n : ℕ). c ≡ get_or (x ∷ cs) n c) (sym first) is in
    ap (λ (z : declared.Case). read_of r o z s) (sym same)
case_by r o x c cs j s false None later here is more = absurd cc
case_by r o x c cs j s false (Some k) later here is more =
    let next : suc k ≡ j = cc in
    more k refl (subst (λ (n : ℕ). c ≡ get_or (x ∷ cs) n c) (sym next) is)

case_found : (r : Rep) (o : Order) (cs : List declared.Case) (id i : ℕ) (c : declared.Case) (s : Spot) → case_index (cases_shape cs) id ≡ Some i → c ≡ get_or cs i c → case_in r o (cases_shape cs) id s ≡ read_of r o c s
case_found r o [] id i c s index is = absurd cc
case_found r o (x ∷ cs) id i c s index is =
    let found = rw (case_tree_is x) at index in
    rw (case_tree_is x, case_more r o (case_head x) (type_shape x.ty) (cases_shape cs) id s) (case_by r o x c cs i s (x.id == id) (case_index (cases_shape cs) id) (case_in r o (cases_shape cs) id s) found is (λ k there at_k. case_found r o cs id k c s there at_k))

settled_got : (tc : Try) (d v : Val) → settled tc d (λ (y : Val). y) (got v) ≡ Some v
settled_got Discard d v = refl
settled_got UseDefault d v = refl
settled_got Trim d v = refl

pub case_is : (r : Rep) (o : Order) (cs : List declared.Case) (d : ℤ) (i : ℕ) (c : declared.Case) (v : Val) (s s2 : Spot) → Some i ≡ selected_index (cases_shape cs) d → c ≡ get_or cs i c → (length s.rest == 0) ≡ false → Reads r o (type_shape c.ty) s v s2 → ReadsCase r o (cases_shape cs) d s v s2
unfolding ◌>>=◌
case_is r o cs d i c v s s2 at_i is some reads = of_id (select (cases_shape cs) d) refl (subst (λ (x : Option ℕ). Selects (cases_shape cs) (select (cases_shape cs) d) x) (sym at_i) (number_selects (cases_shape cs) d))
  where
    of_id : (x : Option ℕ) → select (cases_shape cs) d ≡ x → Selects (cases_shape cs) x (Some i) → ReadsCase r o (cases_shape cs) d s v s2
    of_id None e none = absurd cc
    of_id (Some id) e (j, (index, same)) = record {
      id = id;
      selected = e;
      some = some;
      value = case_found r o cs id i c s (index ∙ sym same) is ∙ ap (done (λ x. settled_case (case_head c) (type_shape c.ty) x)) reads ∙ ap (λ x. Ok ((settled_body x, false), s2)) (settled_got (case_head c).tc (default_of (type_shape c.ty)) v);
    }

pub no_case_is : (r : Rep) (o : Order) (cs : Cases) (d : ℤ) (s : Spot) → None ≡ selected_index cs d → ReadsBody r o cs d s absent s
no_case_is r o cs d s none = (of_none (select cs d) (subst (λ (x : Option ℕ). Selects cs (select cs d) x) (sym none) (number_selects cs d)), refl)
  where
    of_none : (x : Option ℕ) → Selects cs x None → x ≡ None
    of_none None e = refl
    of_none (Some id) (j, (index, same)) = absurd cc

-- ---- a discriminator and its body

abbrev body_of : Slot → Body
body_of absent = no_body
body_of (present v) = settled_body (Some v)

selected_is : (r : Rep) (o : Order) (cs : Cases) (d : ℤ) (s s2 : Spot) (b : Slot) → ReadsBody r o cs d s b s2 → selected_at (select cs d) (λ id s1. case_in r o cs id s1) s ≡ Ok ((body_of b, false), s2)
selected_is r o cs d s s2 absent (none, same) = rw (none, same) refl
selected_is r o cs d s s2 (present v) reads = rw reads.selected reads.value

whole_is : (d : ℤ) (b : Slot) → whole_union (got (int d)) d (body_of b, false) ≡ plain (union_of d b)
whole_is d absent = refl
whole_is d (present v) = refl

-- in XCDR1, and of a FINAL union
union_in : (o : Order) (e : Ext) (key : Bool) (t : Shape) (cs : Cases) (v : Val) (s s2 : Spot) → ReadsUnion Xcdr1 o t cs s v s2 → Reads Xcdr1 o (union e key t cs) s v s2
unfolding read1 ◌>>=◌
union_in o e key t cs v s s2 reads = rw (reads.number.number, reads.number.built, selected_is Xcdr1 o cs reads.disc reads.inside s2 reads.body reads.behind, whole_is reads.disc reads.body, reads.value) refl

final_in : (o : Order) (key : Bool) (t : Shape) (cs : Cases) (v : Val) (s s2 : Spot) → ReadsUnion Xcdr2 o t cs s v s2 → Reads Xcdr2 o (union Final key t cs) s v s2
unfolding read ◌>>=◌
final_in o key t cs v s s2 reads = rw (reads.number.number, reads.number.built, selected_is Xcdr2 o cs reads.disc reads.inside s2 reads.body reads.behind, whole_is reads.disc reads.body, reads.value) refl

pub final_is : (r : Rep) (o : Order) (key : Bool) (t : Shape) (cs : Cases) (v : Val) (s s2 : Spot) → ReadsUnion r o t cs s v s2 → Reads r o (union Final key t cs) s v s2
final_is Xcdr1 o key t cs v s s2 reads = union_in o Final key t cs v s s2 reads
final_is Xcdr2 o key t cs v s s2 reads = final_in o key t cs v s s2 reads

pub appendable_in : (o : Order) (key : Bool) (t : Shape) (cs : Cases) (v : Val) (s s2 : Spot) → ReadsUnion Xcdr1 o t cs s v s2 → Reads Xcdr1 o (union Appendable key t cs) s v s2
appendable_in o key t cs v s s2 reads = union_in o Appendable key t cs v s s2 reads

-- ---- a region that is used up

pub record UsedUp (A : Type 0) (read : Reading A) (x : A) : Type 0 where
  pub spot : Spot
  pub is : read ≡ Ok (x, spot)

whole_front : (s : Spot) → front (length s.rest) s ≡ s
whole_front s = ap (λ (xs : List ℕ). record { at = s.at; rest = xs }) (take_all (length s.rest) s.rest (omega arith))

rest_is : (o : Order) (cs : Cases) (d : ℤ) (s s2 : Spot) (b : Slot) → s2.rest ≡ [] → ReadsBody Xcdr2 o cs d s b s2 → UsedUp (Body × Bool) (rest_selected (select cs d) (λ id s1. read_case o cs id s1) s) (body_of b, false)
unfolding filling ◌>>=◌
rest_is o cs d s s2 absent over (none, same) = record { spot = s; is = rw (none, ap (λ (x : Spot). length x.rest == 0) (sym same), over) refl }
rest_is o cs d s s2 (present v) over reads =
    let value : read_case o cs reads.id (front (length s.rest) s) ≡ Ok ((settled_body (Some v), false), s2) = ap (λ x. read_case o cs reads.id x) (whole_front s) ∙ reads.value in
    record { spot = step (length s.rest) s; is = rw (reads.selected, reads.some, value, over) refl }

inside_is : (o : Order) (t : Shape) (cs : Cases) (v : Val) (s end : Spot) → end.rest ≡ [] → ReadsUnion Xcdr2 o t cs s v end
    → UsedUp Part (scalar_at 4 o t s >>= λ d. done (λ b. whole_union (disc_built t d.0) d.0 b) (rest_selected (select cs d.0) (λ id s2. read_case o cs id s2) d.1)) (plain v)
unfolding ◌>>=◌
inside_is o t cs v s end over reads =
    let rest = rest_is o cs reads.disc reads.inside end reads.body over reads.behind in
    record { spot = rest.spot; is = rw (reads.number.number, reads.number.built, rest.is, whole_is reads.disc reads.body, reads.value) refl }

pub appendable_of : (o : Order) (key : Bool) (t : Shape) (cs : Cases) (v : Val) (s inside after end : Spot) → IsRegion o s inside after → ReadsUnion Xcdr2 o t cs inside v end → end.rest ≡ [] → Reads Xcdr2 o (union Appendable key t cs) s v after
unfolding read passing ◌>>=◌
appendable_of o key t cs v s inside after end region reads over =
    let used = inside_is o t cs v inside end over reads in
    let here = ap (λ (x : Spot). scalar_at 4 o t x >>= λ d. done (λ b. whole_union (disc_built t d.0) d.0 b) (rest_selected (select cs d.0) (λ id s2. read_case o cs id s2) d.1)) (sym region.front.inside_is) ∙ used.is in
    rw (region.counted, here, region.front.after_is) refl

pub union_is : (r : Rep) (k : UnionType) (e : Ext) (o : Order) (v : Val) (s s2 : Spot) → let u = out-UnionType k in u.ext ≡ e → Reads r o (union e u.disc_key (type_shape u.disc) (cases_shape u.cases)) s v s2 → Reads r o (shape (union_tree k)) s v s2
union_is r k e o v s s2 is reads = rw (union_tree_is k, is) reads
