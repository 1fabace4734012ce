-- Pictures as contracts see them.
use Rattle.std.specs.Prelude.{map}
use Rattle.domains.specs.Ids.{group_numbers, host_numbers}
use Rattle.forecast_svg.specs.PictureText.{PictureView, SheetView}
use Rattle.forecast_svg.specs.declared.picture.Picture.{Picture}
use Rattle.forecast_svg.specs.declared.sheet.Sheet.{Sheet}

abbrev pub sheet_view : Sheet → SheetView
sheet_view sheet = record {
  fleet = sheet.fleet.now;
  groups = group_numbers sheet.groups.now;
  hosts = host_numbers sheet.hosts.now;
  boundaries = sheet.boundaries.now;
}

abbrev pub picture_view : Picture → PictureView
picture_view picture = record {
  fleet = picture.fleet.now;
  groups = group_numbers picture.groups.now;
  hosts = host_numbers picture.hosts.now;
  plays = map (λ boundaries. boundaries.now) picture.courses.now;
}
