pub mod ShellScript
pub mod ScriptPlaces
