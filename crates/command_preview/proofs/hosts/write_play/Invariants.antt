use Rattle.std.proofs.Common.{◌≡◌, ℕ, List, take}
use Rattle.std.specs.List.{list_any}
use Rattle.bounded_io.specs.Writing.{Writes}
use Rattle.domains.specs.Ids.{host_numbers}
use Rattle.domains.specs.Numbered.{host_at}
use Rattle.recap.specs.RecapText.{text_by_place}
use Rattle.command_preview.specs.Holes.{unsure_from}
use Rattle.command_preview.specs.Inside.{told_by, views_of}
use Rattle.command_preview.specs.Lines.{fails, lines_of_host, lines_text, view_at, Line}
use Rattle.command_preview.proofs.hosts.write_play.Given as goal

abbrev pub invariant-loop-host : goal.invariant-loop-host
invariant-loop-host g l =
    let lines : ℕ → List Line =
    λ host. lines_of_host (unsure_from l.scene.holes.now.names l.before) l.play (host_at l.scene.fleet.now.hosts host) (view_at (views_of l.scene.vars.now) host) in
    record {
      written : Writes g.W.Write.contents l.initial.text l.text (text_by_place (λ place host. lines_text (lines host)) 0 (take l.host-index (host_numbers l.host-items)));
      told : l.fails ≡ told_by (λ place host. list_any fails (lines host)) 0 (take l.host-index (host_numbers l.host-items));
    }
