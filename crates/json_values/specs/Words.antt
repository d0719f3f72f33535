-- The words that are printed for the rules of JSON (this profile's own).
use Rattle.std.specs.Prelude.{ℕ, List, codes}
use Rattle.json_values.specs.declared.faults.JsonRule.{JsonRule}

abbrev pub rule_text : JsonRule → List ℕ
rule_text JsonRule.Kind = codes "KIND"
rule_text JsonRule.Unknown = codes "UNKNOWN"
rule_text JsonRule.Missing = codes "MISSING"
rule_text JsonRule.Range = codes "RANGE"
rule_text JsonRule.Literal = codes "LITERAL"
rule_text JsonRule.Text = codes "TEXT"
rule_text JsonRule.Bound = codes "BOUND"
rule_text JsonRule.Count = codes "COUNT"
rule_text JsonRule.Twice = codes "TWICE"
rule_text JsonRule.Case = codes "CASE"
