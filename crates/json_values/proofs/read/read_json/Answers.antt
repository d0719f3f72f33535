use Rattle.std.proofs.Common.{◌≡◌, Ok, Err, IfOk, IfErr, sym, subst, ap}
use Rattle.type_trees.specs.View.{tree, val}
use Rattle.json_values.specs.declared.faults.ValueFault.TheVariants.{OutOfMemory}
use Rattle.json_values.specs.Read.{if_json}
use Rattle.json_values.proofs.Utf8.{reads_some, reads_none}
use Rattle.json_values.proofs.read.read_json.Goals as goal

pub returns-in-Ok-clause-ok : goal.returns-in-Ok-clause-ok
returns-in-Ok-clause-ok c =
    let found = reads_some c.args.text.now _ c.in-Ok.ensures.ok.0 c.in-Ok.ensures.ok.1 in
    subst (λ r. IfOk c.read_value.result (λ v. if_json (tree c.args.ty.now) r ≡ Ok (val v))) (sym found) c.read_value.ensures.ok

pub returns-in-Ok-clause-err : goal.returns-in-Ok-clause-err
returns-in-Ok-clause-err c =
    let found = reads_some c.args.text.now _ c.in-Ok.ensures.ok.0 c.in-Ok.ensures.ok.1 in
    subst (λ r. IfErr c.read_value.result (λ e. (e ≡ OutOfMemory → ⊥) → if_json (tree c.args.ty.now) r ≡ Err e)) (sym found) c.read_value.ensures.err

pub returns-else-is_memory-clause-err : goal.returns-else-is_memory-clause-err
returns-else-is_memory-clause-err c memory =
    ap (if_json (tree c.args.ty.now)) (reads_none c.args.text.now (c.in-Err.ensures.err (λ m. cc (c.if-is_memory.ensures.1 m))))
