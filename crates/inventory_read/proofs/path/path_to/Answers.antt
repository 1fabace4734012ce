use Rattle.std.proofs.Common.{◌≡◌, ◌++◌, List, ℕ, Bor, codes, ap, ◌∙◌}
use Rattle.std.specs.String.{string_bytes}
use Rattle.inventory_read.specs.Listings.{texts}
use Rattle.inventory_read.specs.Paths.{keys_text, text_path}
use Rattle.inventory_read.proofs.Checks.{join_texts}
use Rattle.inventory_read.proofs.path.path_to.Goals as goal

pub returns : goal.returns
returns c =
    let joined : string_bytes c.in_ok-path.path ≡ text_path (texts c.args.names.now) =
    c.in_ok-path.ensures.ok ∙ join_texts (λ (name : Bor (List ℕ)). name.now) (codes "/children/") c.args.names.now in
    c.in_ok-push_keys.ensures ∙ ap (λ text. text ++ keys_text (texts c.args.keys.now)) joined
