-- What was written, part after part, and how it ends.
use Rattle.std.proofs.Common.{◌≡◌, ℕ, List, [], ◌∷◌, ◌++◌, None, Some, Result, Ok, Err, refl, sym, ap, ◌∙◌, subst, append_assoc, append-nil}
use Rattle.std.specs.declared.option.Option.{Option}
use Rattle.std.specs.List.{concat}
use Rattle.std.specs.Io.KnownBytes.{Appends}
use Rattle.std.proofs.KnownBytes.{Appends-nil, Appends-trans}
use Rattle.xt_io.specs.Outside.{AppendsPrefix}
use Rattle.tool_runs.specs.declared.output.halt.Halt.{Halt}
use Rattle.tool_runs.specs.declared.output.halt.Halt.TheVariants as halts
use Rattle.tool_runs.specs.declared.output.ending.Ending.{Ending}
use Rattle.tool_runs.specs.declared.output.ending.Ending.TheVariants.{Refused}
use Rattle.tool_runs.specs.declared.output.ending.Style.{Style}
use Rattle.tool_runs.specs.output.Outputs.{Output, Refusal, text_of, after_pieces, last_piece, refused}
use Rattle.tool_runs.specs.output.Runs.{Halted, Ends, Writes, Leads}

pub concat-append : (xs ys : List (List ℕ)) → concat (xs ++ ys) ≡ concat xs ++ concat ys
concat-append [] ys = refl
concat-append (x ∷ xs) ys = ap (λ l. x ++ l) (concat-append xs ys) ∙ sym (append_assoc x (concat xs) (concat ys))

pub regroup : (front back : List (List ℕ)) (output : Output) → after_pieces front (after_pieces back output) ≡ after_pieces (front ++ back) output
regroup front back output = ap (λ (l : List (List ℕ)). let made : Output = record { pieces = l; ending = output.ending } in made) (sym (append_assoc front back output.pieces))

pub text_after : (first rest : Output) (pieces : List (List ℕ)) → first ≡ after_pieces pieces rest → text_of first ≡ concat pieces ++ text_of rest
text_after first rest pieces e = ap text_of e ∙ concat-append pieces rest.pieces

-- nothing was written yet
halts_before : (output : Output) (e : Halt) (a : Option (List ℕ)) → Halted output e a a
halts_before output halts.ReadFault a = ([], output, refl, Appends-nil a)
halts_before output halts.WriteFault a = ([], text_of output, refl, Appends-nil a)
halts_before output halts.OutOfMemory a = ([], text_of output, refl, Appends-nil a)

pub stops_here : (told : Option Output) (e : Halt) (a : Option (List ℕ)) → Writes told (Err e) a a
stops_here None e a = tt
stops_here (Some output) e a = halts_before output e a

prefix_on : (first rest : Output) (pieces : List (List ℕ)) (old mid new : Option (List ℕ)) → first ≡ after_pieces pieces rest → Appends old mid (concat pieces)
    → AppendsPrefix mid new (text_of rest) → AppendsPrefix old new (text_of first)
prefix_on first rest pieces old mid new e p q =
    let (some, back, split, appended) = q in
    (concat pieces ++ some, back, text_after first rest pieces e ∙ ap (λ l. concat pieces ++ l) split ∙ sym (append_assoc (concat pieces) some back), Appends-trans _ _ _ _ _ p appended)

-- what was written before, and how it ended
ends_on : (first rest : Output) (pieces : List (List ℕ)) (result : Result Ending Halt) (old mid new : Option (List ℕ)) → first ≡ after_pieces pieces rest → Appends old mid (concat pieces)
    → Ends rest result mid new → Ends first result old new
ends_on first rest pieces (Ok status) old mid new e p q = record {
  ending = q.ending ∙ sym (ap (λ (o : Output). o.ending) e);
  text = subst (Appends old new) (sym (text_after first rest pieces e)) (Appends-trans _ _ _ _ _ p q.text);
}
ends_on first rest pieces (Err halts.ReadFault) old mid new e p q =
    let (more, others, split, appended) = q in (
      pieces ++ more,
      others,
      e ∙ ap (after_pieces pieces) split ∙ regroup pieces more others,
      subst (Appends old new) (sym (ap (λ l. l ++ []) (concat-append pieces more) ∙ append_assoc (concat pieces) (concat more) [])) (Appends-trans _ _ _ _ _ p appended),
    )
ends_on first rest pieces (Err halts.WriteFault) old mid new e p q = prefix_on first rest pieces old mid new e p q
ends_on first rest pieces (Err halts.OutOfMemory) old mid new e p q = prefix_on first rest pieces old mid new e p q

-- ---- where the output is told

pub leads_nowhere : (told : Option Output) (a : Option (List ℕ)) → Leads told told a a
leads_nowhere None a = tt
leads_nowhere (Some output) a = ([], refl, Appends-nil a)

pub leads_on : (first middle last : Option Output) (old mid new : Option (List ℕ)) → Leads first middle old mid → Leads middle last mid new → Leads first last old new
leads_on None middle last old mid new p q = tt
leads_on (Some first) None last old mid new p q = absurd p
leads_on (Some first) (Some middle) None old mid new p q = absurd q
leads_on (Some first) (Some middle) (Some last) old mid new p q =
    let (pieces, whole, appended) = p in
    let (more, rest, added) = q in
    (pieces ++ more, whole ∙ ap (after_pieces pieces) rest ∙ regroup pieces more last, subst (Appends old new) (sym (concat-append pieces more)) (Appends-trans _ _ _ _ _ appended added))

pub writes_on : (first rest : Option Output) (result : Result Ending Halt) (old mid new : Option (List ℕ)) → Leads first rest old mid → Writes rest result mid new → Writes first result old new
writes_on None rest result old mid new p q = tt
writes_on (Some first) None result old mid new p q = absurd p
writes_on (Some first) (Some rest) result old mid new p q = ends_on _ _ p.0 result old mid new p.1 p.2 q

-- one more piece
pub leads_piece : (output : Output) (piece : List ℕ) (old new : Option (List ℕ)) → Appends old new piece → Leads (Some (after_pieces (piece ∷ []) output)) (Some output) old new
leads_piece output piece old new p = (piece ∷ [], refl, subst (Appends old new) (sym (append-nil piece)) p)

-- the sink took a beginning of the piece
pub piece_is_cut : (output : Output) (piece : List ℕ) (e : Halt) (old new : Option (List ℕ)) → AppendsPrefix old new piece → (e ≡ halts.ReadFault → ⊥) → Writes (Some (after_pieces (piece ∷ []) output)) (Err e) old new
piece_is_cut output piece halts.ReadFault old new p no_read = absurd (no_read refl)
piece_is_cut output piece halts.WriteFault old new p no_read =
    let (some, back, split, appended) = p in (some, back ++ text_of output, ap (λ l. l ++ text_of output) split ∙ append_assoc some back (text_of output), appended)
piece_is_cut output piece halts.OutOfMemory old new p no_read =
    let (some, back, split, appended) = p in (some, back ++ text_of output, ap (λ l. l ++ text_of output) split ∙ append_assoc some back (text_of output), appended)

-- ---- the last line

pub last_is_whole : (style : Style) (said : Refusal) (old new : Option (List ℕ)) → Appends old new (last_piece style said.text) → Ends (refused style said) (Ok (Refused said.cause)) old new
last_is_whole style said old new p = record { ending = refl; text = subst (Appends old new) (sym (append-nil (last_piece style said.text))) p }

pub last_is_cut : (style : Style) (said : Refusal) (e : Halt) (old new : Option (List ℕ)) → AppendsPrefix old new (last_piece style said.text) → (e ≡ halts.ReadFault → ⊥) → Ends (refused style said) (Err e) old new
last_is_cut style said e old new p no_read = piece_is_cut (record { pieces = []; ending = Refused said.cause }) (last_piece style said.text) e old new p no_read
