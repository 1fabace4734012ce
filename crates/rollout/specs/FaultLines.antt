-- The line that reports a fault.
use Rattle.std.specs.Prelude.{ℕ, Bool, true, false, ◌==◌, ◌||◌, if◌then◌else◌, List, [], ◌∷◌, ◌++◌, Option, Some, None, codes, decimal, flat_map}
use Rattle.json_output.specs.declared.form.Form.{Form}
use Rattle.json_output.specs.declared.form.Form.TheVariants.{Plain, Json}

-- a detail of a fault, as the line shows it: a number, or a text
pub record ShownDetail : Type 0 where
  pub key : List ℕ
  pub value : List ℕ
  pub is_number : Bool

-- what stands behind the number of a fault: its name, and its details in their order
pub record Row : Type 0 where
  pub name : List ℕ
  pub details : List ShownDetail

-- ` KEY=`
abbrev pub key_text : List ℕ → List ℕ
key_text key = codes " " ++ (key ++ codes "=")

-- ` KEY=VALUE`
abbrev pub detail_text : ShownDetail → List ℕ
detail_text detail = key_text detail.key ++ detail.value

-- `,"KEY":`
abbrev pub key_json : List ℕ → List ℕ
key_json key = codes ",\"" ++ (key ++ codes "\":")

-- a printable byte within a text of JSON: a quote and a backslash have a backslash before them
abbrev pub escaped : ℕ → List ℕ
escaped byte = if byte == 34 || byte == 92 then 92 ∷ byte ∷ [] else byte ∷ []

-- `"TEXT"`
abbrev pub quoted : List ℕ → List ℕ
quoted bytes = codes "\"" ++ (flat_map escaped bytes ++ codes "\"")

abbrev pub value_json : Bool → List ℕ → List ℕ
value_json true value = value
value_json false value = quoted value

-- `,"KEY":VALUE`
abbrev pub detail_json : ShownDetail → List ℕ
detail_json detail = key_json detail.key ++ value_json detail.is_number detail.value

abbrev pub detail_in : Form → ShownDetail → List ℕ
detail_in Plain detail = detail_text detail
detail_in Json detail = detail_json detail

-- a name and the text of what stands behind it
abbrev pub named_row : Form → List ℕ → List ℕ → List ℕ
named_row Plain name details = name ++ details
named_row Json name details = codes "\"kind\":\"" ++ (name ++ (codes "\"" ++ details))

-- `NAME` and the details
abbrev pub row_text : Form → Row → List ℕ
row_text form row = named_row form row.name (flat_map (detail_in form) row.details)

-- what stands before the number, and what ends the line
abbrev pub before_number : Form → List ℕ
before_number Plain = codes "rollout: "
before_number Json = codes "{\"fault\":{\"number\":"

abbrev pub behind_number : Form → List ℕ
behind_number Plain = codes " "
behind_number Json = codes ","

abbrev pub line_end : Form → List ℕ
line_end Plain = codes "\n"
line_end Json = codes "}}\n"

-- the line of want of memory, which has no number
abbrev pub memory_line : Form → List ℕ
memory_line Plain = codes "rollout: memory\n"
memory_line Json = codes "{\"fault\":{\"number\":null,\"kind\":\"memory\"}}\n"

-- `rollout: NUMBER NAME` and the details, or the same facts as an object of JSON
abbrev pub line_text : Form → Option ℕ → Row → List ℕ
line_text form None row = memory_line form
line_text form (Some number) row = before_number form ++ (decimal number ++ (behind_number form ++ (row_text form row ++ line_end form)))
