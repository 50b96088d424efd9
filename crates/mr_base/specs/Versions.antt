-- Versions of the program as those of the definitions.
use Rattle.mr_model.specs.Exchange as model
use Rattle.mr_base.specs.declared.versions.Version.{Version}
use Rattle.mr_base.specs.declared.versions.Version.TheVariants.{First, Second}

abbrev pub version_of : Version → model.Version
version_of First = model.First
version_of Second = model.Second
